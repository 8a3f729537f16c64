-- The steps of recovery, as the code takes them. Assumes nothing.
use Prim.Native.Nat.{ℕ, suc, ◌-◌, ◌*◌, ◌%◌, ◌≤◌, ◌<◌}
use mathlib.Core.Path.{◌≡◌, refl, sym, ap, ◌∙◌}
use mathlib.Core.Bool.{true, false}
use mathlib.Core.List.{List}
use lib.ListN.{length, take, drop, take-append-drop}
use lib.Seq.{take_all, take-take}
use native.Mathlib.Omega.{arith}
use borrow.Author.Tests.{eq-eqb, ne_eqb}
use Rattle.page.specs.Size.{page_size, page_count, page_at}
use Rattle.std.specs.Prelude.{Err}
use Rattle.refusal.specs.Refusal.{number_of, value_of}
use Rattle.refusal.specs.declared.Refusal.{Refusal}
use Rattle.page.specs.Mark.{mark_at, mark_of}
use Rattle.page.specs.Entry.{Starting, short, cut, whole, entry_at}
use Rattle.page.proofs.Marking.{IsBad, by_start, by_later, by_bad, is_bad, names_mark}
use Rattle.page.proofs.Paging.{page_kept}
use Rattle.page.proofs.Reading.{mark_same}
use Rattle.catalog.specs.Bounds.{Fits, too_long}
use Rattle.catalog.specs.State.{fresh, recovered_at, top_id}
use Rattle.catalog.specs.Recovery.{recovered, refused, at_whole, at_start, first_pages, walk_back, excess_of, above_stored, recover_log, recover_of}
use Rattle.catalog.specs.declared.state.State.{State}
use Rattle.catalog.proofs.Laws.Bounds.{fitting, length_log}

-- ---- a log that ends with a whole entry

module _ (n id excess dropped : ℕ) where
  pub whole_used : id ≡ top_id → refused 9 0 ≡ at_whole n id excess dropped
  unfolding at_whole
  whole_used u = rw (eq-eqb id top_id u)

  pub whole_goes_on : (id ≡ top_id → ⊥) → (st : State) → st ≡ recovered_at n id → recovered st excess dropped ≡ at_whole n id excess dropped
  unfolding at_whole
  whole_goes_on u st f = rw (f, ne_eqb id top_id u)

-- ---- the walk back

module _ (pages excess : ℕ) (log : List ℕ) where
  -- page p is the next one to be looked at
  module _ (p q : ℕ) (e : q ≡ suc p) where
    pub back_later : mark_at log p ≡ 0 → walk_back pages excess log q ≡ walk_back pages excess log p
    unfolding walk_back
    back_later m = rw e (by_later (mark_at log p) _ _ _ m)

    pub back_bad : IsBad (mark_at log p) → walk_back pages excess log q ≡ refused 5 p
    unfolding walk_back
    back_bad m = rw e (by_bad (mark_at log p) _ _ _ m)

    -- at a start
    module _ (m : mark_at log p ≡ 1) where
      back_start : walk_back pages excess log q ≡ at_start (length log) excess (pages - page_count log) p (walk_back pages excess (first_pages log p) p) (entry_at log p)
      unfolding walk_back
      back_start = rw e (by_start (mark_at log p) _ _ _ m)

      pub back_short : entry_at log p ≡ short → walk_back pages excess log q ≡ refused 6 p
      unfolding at_start
      back_short h = back_start ∙ rw h

      pub back_cut : (id : ℕ) → entry_at log p ≡ cut id → walk_back pages excess log q ≡ walk_back pages excess (first_pages log p) p
      unfolding at_start
      back_cut id h = back_start ∙ rw h

      pub back_whole : (id len after : ℕ) → entry_at log p ≡ whole id len after → walk_back pages excess log q ≡ at_whole (length log) id excess (pages - page_count log)
      unfolding at_start
      back_whole id len after h = back_start ∙ rw h

  pub back_fresh : (p : ℕ) → p ≡ 0 → page_count log ≡ 0 → walk_back pages excess log p ≡ recovered fresh excess pages
  unfolding walk_back
  back_fresh p z e = rw (z, eq-eqb (page_count log) 0 e)

  pub back_none : (p : ℕ) → p ≡ 0 → (page_count log ≡ 0 → ⊥) → walk_back pages excess log p ≡ refused 8 0
  unfolding walk_back
  back_none p z e = rw (z, ne_eqb (page_count log) 0 e)

-- ---- the first pages of a log

module _ (log : List ℕ) (p : ℕ) (inside : p ≤ page_count log) where
  pub length_first : length (first_pages log p) ≡ p * page_size
  length_first = length_log log (p * page_size) (omega arith)

  pub count_first : page_count (first_pages log p) ≡ p
  count_first = omega (arith, length_first)

  -- fewer of them are the first pages of the log too
  pub first_first : (q : ℕ) → q ≤ p → first_pages (first_pages log p) q ≡ first_pages log q
  first_first q l = take-take (q * page_size) (p * page_size) log (omega arith)

  -- they are the log's
  pub page_first : (q : ℕ) → q < p → page_at log q ≡ page_at (first_pages log p) q
  page_first q l = rw (take-append-drop (p * page_size) log) at (page_kept (first_pages log p) (drop (p * page_size) log) q (omega (arith, count_first)))

-- all pages of a log that has no excess
pub all_pages_lem : (log : List ℕ) (p : ℕ) → p ≡ page_count log → length log % page_size ≡ 0 → first_pages log p ≡ log
all_pages_lem log p e w = take_all (p * page_size) log (omega arith)

-- recovery of a log is the walk from its last page
pub from_last : (log : List ℕ) (excess : ℕ) → recover_log log excess ≡ walk_back (page_count log) excess log (page_count log)
unfolding recover_log
from_last log excess = refl

-- ---- the loop of the walk: from here on it comes to what it comes to from the last page

pub record BackLoop (log : List ℕ) (excess left q : ℕ) : Type 0 where
  pub most : left ≤ page_count log
  pub inside : q ≤ left
  pub same : walk_back (page_count log) excess (first_pages log left) q ≡ recover_log log excess

pub back_begins : (log : List ℕ) (excess left q : ℕ) → left ≡ page_count log → q ≡ page_count log → length log % page_size ≡ 0 → BackLoop log excess left q
back_begins log excess left q a b w = record { most = omega arith; inside = omega arith; same = rw (all_pages_lem log left a w, b) (sym (from_last log excess)) }

module _ (log : List ℕ) (excess left q : ℕ) (b : BackLoop log excess left q) where
  -- page p, the last of those still to be looked at
  module _ (p : ℕ) (e : q ≡ suc p) where
    mark_left : mark_at log p ≡ mark_at (first_pages log left) p
    mark_left = mark_same log (first_pages log left) p p (page_first log left b.most p (omega (arith, b.inside)))

    pub goes_back : mark_at log p ≡ 0 → (left' : ℕ) → left' ≡ left → BackLoop log excess left' p
    goes_back m left' f = record {
      most = omega (arith, b.most);
      inside = omega (arith, b.inside);
      same = rw f (sym (back_later (page_count log) excess (first_pages log left) p q e (sym mark_left ∙ m)) ∙ b.same);
    }

    -- a bad mark, passed on by `?`
    pub ends_fault : (r : Refusal) → Err r ≡ mark_of p (mark_at log p) → refused (number_of r) (value_of r) ≡ recover_log log excess
    ends_fault r m =
        rw (names_mark p (mark_at log p) m)
        (sym (back_bad (page_count log) excess (first_pages log left) p q e (rw mark_left at (is_bad p (mark_at log p) m))) ∙ b.same)

    -- if it is a start, what starts there is read at page s, in a part of w bytes, which is what is left; the part's length only shows w to the checker
    module _ (m : mark_at log p ≡ 1) (w : ℕ) (size : w ≡ length (take w log)) (part : w ≡ left * page_size) (s : ℕ) (g : s ≡ p) where
      marked : mark_at (first_pages log left) p ≡ 1
      marked = sym mark_left ∙ m

      -- what is read is what starts there in what is left
      entry_left : (x : Starting) → entry_at (take w log) s ≡ x → entry_at (first_pages log left) p ≡ x
      entry_left x h = rw (part, g) at h

      pub ends_short : entry_at (take w log) s ≡ short → (k : ℕ) → k ≡ p → refused 6 k ≡ recover_log log excess
      ends_short h k f = rw f (sym (back_short (page_count log) excess (first_pages log left) p q e marked (entry_left _ h)) ∙ b.same)

      -- what is left then ends where the cut entry starts
      pub drops_cut : (id : ℕ) → entry_at (take w log) s ≡ cut id → (left' : ℕ) → left' ≡ p → BackLoop log excess left' p
      drops_cut id h left' f = record {
        most = omega (arith, b.most, b.inside);
        inside = omega arith;
        same =
            rw (f, ← first_first log left b.most p (omega (arith, b.inside)))
            (sym (back_cut (page_count log) excess (first_pages log left) p q e marked id (entry_left _ h)) ∙ b.same);
      }

      pub ends_whole : (id len after : ℕ) → entry_at (take w log) s ≡ whole id len after
          → (n : ℕ) → n ≡ left * page_size → (dropped : ℕ) → dropped ≡ page_count log - left → at_whole n id excess dropped ≡ recover_log log excess
      ends_whole id len after h n k dropped l =
          rw (k, l, ← length_first log left b.most)
          (ap (λ (k : ℕ). at_whole (length (first_pages log left)) id excess (page_count log - k)) (sym (count_first log left b.most))
          ∙ sym (back_whole (page_count log) excess (first_pages log left) p q e marked id len after (entry_left _ h))
          ∙ b.same)

  pub ends_none : q ≡ 0 → (left ≡ 0 → ⊥) → refused 8 0 ≡ recover_log log excess
  ends_none z some = sym (back_none (page_count log) excess (first_pages log left) q z (λ f. some (sym (count_first log left b.most) ∙ f))) ∙ b.same

  pub ends_fresh : q ≡ 0 → left ≡ 0 → (st : State) → st ≡ fresh → (dropped : ℕ) → dropped ≡ page_count log → recovered st excess dropped ≡ recover_log log excess
  ends_fresh z none st f dropped g = rw (f, g) (sym (back_fresh (page_count log) excess (first_pages log left) q z (count_first log left b.most ∙ none)) ∙ b.same)

-- ---- the whole

-- a part that is lent of a store in bounds has its length
pub part_length : (store : List ℕ) (n : ℕ) → too_long store n ≡ false → (w : ℕ) → (Fits store n → w ≤ length store) → w ≡ length (take w store)
part_length store n t w h = sym (length_log store w (h (fitting store n t)))

module _ (store : List ℕ) (n stored : ℕ) where
  pub recover_bad : too_long store n ≡ true → refused 1 0 ≡ recover_of store n stored
  unfolding recover_of
  recover_bad t = rw t

  -- the part that is walked, of w bytes, ends where the excess begins
  pub recover_cut : too_long store n ≡ false → (w : ℕ) → w ≡ length (take w store) → w ≡ n - excess_of n
      → above_stored stored (recover_log (take w store) (excess_of n)) ≡ recover_of store n stored
  unfolding recover_of
  recover_cut t w size e = rw (t, ← e)
