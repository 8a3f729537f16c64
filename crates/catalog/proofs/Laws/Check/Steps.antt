-- The steps of the sound check, as the code takes them, and what a page may say. Assumes nothing.
use Prim.Native.Nat.{ℕ, zero, suc, ◌+◌, ◌-◌, ◌%◌, ◌≤◌, ◌<◌}
use mathlib.Core.Path.{◌≡◌, refl, sym, ap, ◌∙◌}
use mathlib.Core.Bool.{true, false}
use mathlib.Core.Logic.{⊎_elim}
use mathlib.Core.List.{List}
use lib.ListN.{length, take}
use native.Mathlib.Omega.{arith}
use borrow.Author.Tests.{lt-ltb, le-ltb, le-leb, lt-leb, eq-eqb, ne_eqb}
use Rattle.page.specs.Size.{page_size, page_count}
use Rattle.std.specs.Prelude.{Err}
use Rattle.refusal.specs.Refusal.{number_of, value_of}
use Rattle.refusal.specs.declared.Refusal.{Refusal}
use Rattle.page.specs.Mark.{mark_at, mark_of}
use Rattle.page.specs.Entry.{Starting, short, cut, whole, entry_at}
use Rattle.page.proofs.Marking.{IsBad, mark_cases, by_start, by_later, by_bad, read_by_bad}
use Rattle.page.proofs.Starting.{IsWhole, is_whole, after_start}
use Rattle.catalog.specs.Round.{Round, stop, again}
use Rattle.catalog.specs.Bounds.{too_long}
use Rattle.catalog.specs.Check.{Checking, sound, refused, Checkpoint, checkpoint, later_marks, check_start, check_page, check_end, check_from, check_log, check_of}
use Rattle.refusal.proofs.Cases.{side}

-- ---- the later pages of an entry

module _ (log : List ℕ) (id : ℕ) where
  -- the first page that is read is the first that is asked for
  pub later_from : (after p from : ℕ) → p ≡ from → later_marks log id (after - p) p ≡ later_marks log id (after - from) from
  later_from after p from e = rw e

  pub later_done : (k p : ℕ) → k ≡ 0 → later_marks log id k p ≡ again (checkpoint p id)
  unfolding later_marks
  later_done k p z = rw z

  -- no page is left
  pub later_end : (after p : ℕ) → p ≡ after → later_marks log id (after - p) p ≡ again (checkpoint after id)
  later_end after p e = rw e (later_done (after - after) after (omega arith))

  pub later_start : (k p : ℕ) → 0 < k → mark_at log p ≡ 1 → later_marks log id k p ≡ stop (refused 14 p)
  unfolding later_marks
  later_start zero p l m = absurd (omega arith)
  later_start (suc k) p l m = by_start (mark_at log p) _ _ _ m

  pub later_bad : (k p : ℕ) → 0 < k → IsBad (mark_at log p) → later_marks log id k p ≡ stop (refused 5 p)
  unfolding later_marks
  later_bad zero p l m = absurd (omega arith)
  later_bad (suc k) p l m = by_bad (mark_at log p) _ _ _ m

  -- a fault that is passed on by `?`
  pub later_fault : (k p : ℕ) (e : Refusal) → 0 < k → Err e ≡ mark_of p (mark_at log p) → stop (refused (number_of e) (value_of e)) ≡ later_marks log id k p
  unfolding later_marks
  later_fault zero p e l m = absurd (omega arith)
  later_fault (suc k) p e l m = sym (read_by_bad p (mark_at log p) _ _ (λ r. stop (refused (number_of r) (value_of r))) m)

  pub later_on : (k j p : ℕ) → k ≡ suc j → mark_at log p ≡ 0 → later_marks log id k p ≡ later_marks log id j (p + 1)
  unfolding later_marks
  later_on k j p e m = rw e (by_later (mark_at log p) _ _ _ m)

-- ---- a start

module _ (log : List ℕ) (p last : ℕ) (e : Starting) where
  pub check_short : e ≡ short → stop (refused 6 p) ≡ check_start log p last e
  unfolding check_start
  check_short h = rw h

  pub check_cut : (id : ℕ) → e ≡ cut id → stop (refused 7 p) ≡ check_start log p last e
  unfolding check_start
  check_cut id h = rw h

  module _ (id len after : ℕ) (h : e ≡ whole id len after) where
    pub start_low : id ≤ last → stop (refused 15 p) ≡ check_start log p last e
    unfolding check_start
    start_low l = rw (h, le-leb id last l)

    pub start_later : last < id → later_marks log id (after - (p + 1)) (p + 1) ≡ check_start log p last e
    unfolding check_start
    start_later l = rw (h, lt-leb id last l)

-- the page after a whole entry is a later one
pub past_start : {log : List ℕ} {p id len after : ℕ} → IsWhole log p id len after → p < after
past_start {log} {p} w = omega (arith, w.after_is, after_start log p)

-- ---- a page

module _ (log : List ℕ) (p last : ℕ) where
  pub check_page_start : mark_at log p ≡ 1 → check_page log p last ≡ check_start log p last (entry_at log p)
  unfolding check_page
  check_page_start m = by_start (mark_at log p) _ _ _ m

  pub check_page_bad : IsBad (mark_at log p) → check_page log p last ≡ stop (refused 5 p)
  unfolding check_page
  check_page_bad m = by_bad (mark_at log p) _ _ _ m

  pub check_page_none : mark_at log p ≡ 0 → p ≡ 0 → check_page log p last ≡ stop (refused 8 0)
  unfolding check_page
  check_page_none m z = by_later (mark_at log p) _ _ _ m ∙ rw (eq-eqb p 0 z)

  pub check_page_idle : mark_at log p ≡ 0 → (p ≡ 0 → ⊥) → check_page log p last ≡ again (checkpoint (p + 1) last)
  unfolding check_page
  check_page_idle m z = by_later (mark_at log p) _ _ _ m ∙ rw (ne_eqb p 0 z)

-- ---- what a page may say

-- of k later pages from p on, of the entry with that id
data LaterMarksSay (log : List ℕ) (id k p : ℕ) : Round Checking Checkpoint → Type 0 where
  all_later : (after : ℕ) → after ≡ p + k → ((q : ℕ) → p ≤ q → q < after → mark_at log q ≡ 0) → LaterMarksSay log id k p (again (checkpoint after id))
  not_later : (number value : ℕ) → LaterMarksSay log id k p (stop (refused number value))

later_marks_say : (log : List ℕ) (id k p : ℕ) → LaterMarksSay log id k p (later_marks log id k p)
later_marks_say log id zero p = rw (later_done log id 0 p refl) (all_later p (omega arith) (λ q l m. absurd (omega arith)))
later_marks_say log id (suc k) p = ⊎_elim
    (λ m. rw (later_start log id (suc k) p (omega arith) m) (not_later 14 p))
    (⊎_elim (λ m. rw (later_on log id (suc k) k p refl m) (more m (later_marks log id k (p + 1)) (later_marks_say log id k (p + 1))))
    (λ m. rw (later_bad log id (suc k) p (omega arith) m) (not_later 5 p)))
    (mark_cases (mark_at log p))
  where
    more : mark_at log p ≡ 0 → (t : Round Checking Checkpoint) → LaterMarksSay log id k (p + 1) t → LaterMarksSay log id (suc k) p t
    more m t (all_later after e f) = all_later after (omega arith) (λ q l n. ⊎_elim (λ a. f q (omega arith) n) (λ a. let z : p ≡ q = omega arith in rw z at m) (side p q))
    more m t (not_later number value) = not_later number value

pub data CheckPageSays (log : List ℕ) (p last : ℕ) : Round Checking Checkpoint → Type 0 where
  passes_idle : mark_at log p ≡ 0 → (p ≡ 0 → ⊥) → CheckPageSays log p last (again (checkpoint (p + 1) last))
  passes_entry : {id len after : ℕ} → mark_at log p ≡ 1 → IsWhole log p id len after → last < id → ((q : ℕ) → p < q → q < after → mark_at log q ≡ 0) → CheckPageSays log p last (again (checkpoint after id))
  finds_fault : (number value : ℕ) → CheckPageSays log p last (stop (refused number value))

module _ (log : List ℕ) (p last : ℕ) where
  start_says : mark_at log p ≡ 1 → CheckPageSays log p last (check_start log p last (entry_at log p))
  start_says m = go (entry_at log p) refl
    where
      go : (e : Starting) → entry_at log p ≡ e → CheckPageSays log p last (check_start log p last (entry_at log p))
      go short h = rw (← check_short log p last (entry_at log p) h) (finds_fault 6 p)
      go (cut id) h = rw (← check_cut log p last (entry_at log p) id h) (finds_fault 7 p)
      go (whole id len after) h = ⊎_elim
          (λ l. rw (← start_later log p last (entry_at log p) id len after h l) (later l (later_marks log id (after - (p + 1)) (p + 1)) (later_marks_say log id (after - (p + 1)) (p + 1))))
          (λ l. rw (← start_low log p last (entry_at log p) id len after h l) (finds_fault 15 p))
          (side last id)
        where
          w : IsWhole log p id len after
          w = is_whole h

          later : last < id → (t : Round Checking Checkpoint) → LaterMarksSay log id (after - (p + 1)) (p + 1) t → CheckPageSays log p last t
          later l t (all_later end e f) =
              let z : end ≡ after = omega (arith, past_start w) in
              rw z (passes_entry m w l (λ q a b. f q (omega arith) (omega arith)))
          later l t (not_later number value) = finds_fault number value

  later_says : mark_at log p ≡ 0 → CheckPageSays log p last (check_page log p last)
  later_says m = ⊎_elim some none (side 0 p)
    where
      some : 0 < p → CheckPageSays log p last (check_page log p last)
      some l = let z : p ≡ 0 → ⊥ = λ e. omega arith in rw (check_page_idle log p last m z) (passes_idle m z)

      none : p ≤ 0 → CheckPageSays log p last (check_page log p last)
      none l = rw (check_page_none log p last m (omega arith)) (finds_fault 8 0)

  pub check_page_says : CheckPageSays log p last (check_page log p last)
  check_page_says = ⊎_elim
      (λ m. rw (check_page_start log p last m) (start_says m))
      (⊎_elim later_says (λ m. rw (check_page_bad log p last m) (finds_fault 5 p)))
      (mark_cases (mark_at log p))

  -- a round goes on at a later page
  pub goes_further : (q l : ℕ) → check_page log p last ≡ again (checkpoint q l) → p < q
  goes_further q l e = go (check_page log p last) check_page_says e
    where
      go : (t : Round Checking Checkpoint) → CheckPageSays log p last t → t ≡ again (checkpoint q l) → p < q
      go t (passes_idle m z) e = let f : checkpoint (p + 1) last ≡ checkpoint q l = cc in omega (arith, ap (λ (at : Checkpoint). at.page) f)
      go t (passes_entry {id} {len} {after} m w h f) e = let g : checkpoint after id ≡ checkpoint q l = cc in omega (arith, ap (λ (at : Checkpoint). at.page) g, past_start w)
      go t (finds_fault number value) e = cc

-- ---- the pages

pub from_end : (log : List ℕ) (k p last : ℕ) → page_count log ≤ p → check_from log k (checkpoint p last) ≡ check_end log
unfolding check_from
from_end log zero p last l = refl
from_end log (suc k) p last l = rw (le-ltb p (page_count log) l)

module _ (log : List ℕ) (k p last : ℕ) (l : p < page_count log) where
  pub from_fault : (number value : ℕ) → check_page log p last ≡ stop (refused number value) → check_from log (suc k) (checkpoint p last) ≡ refused number value
  unfolding check_from
  from_fault number value e = rw (lt-ltb p (page_count log) l, e)

  pub from_on : (q id : ℕ) → check_page log p last ≡ again (checkpoint q id) → check_from log (suc k) (checkpoint p last) ≡ check_from log k (checkpoint q id)
  unfolding check_from
  from_on q id e = rw (lt-ltb p (page_count log) l, e)

module _ (log : List ℕ) where
  pub end_excess : (count : ℕ) → count ≡ page_count log → (length log % page_size ≡ 0 → ⊥) → refused 7 count ≡ check_end log
  unfolding check_end
  end_excess count e h = rw (e, ne_eqb (length log % page_size) 0 h)

  pub end_sound : length log % page_size ≡ 0 → sound ≡ check_end log
  unfolding check_end
  end_sound h = rw (eq-eqb (length log % page_size) 0 h)

-- ---- the loop over the pages: those that are left say what all say

pub record PagesLeft (log : List ℕ) (p last : ℕ) : Type 0 where
  pub rounds : ℕ
  pub enough : page_count log ≤ p + rounds
  pub same : check_from log rounds (checkpoint p last) ≡ check_log log

pub all_left : (log : List ℕ) → PagesLeft log 0 0
all_left log = record { rounds = page_count log; enough = omega arith; same = refl }

module _ {log : List ℕ} {p last : ℕ} (h : PagesLeft log p last) where
  pub none_left : page_count log ≤ p → check_end log ≡ check_log log
  none_left l = sym (from_end log h.rounds p last l) ∙ h.same

  module _ (l : p < page_count log) where
    -- the rounds that are left are one and the others
    one_round : suc (h.rounds - 1) ≡ h.rounds
    one_round = omega (arith, h.enough)

    pub fault_left : (number value : ℕ) → check_page log p last ≡ stop (refused number value) → refused number value ≡ check_log log
    fault_left number value e = sym (rw one_round at (from_fault log (h.rounds - 1) p last l number value e)) ∙ h.same

    pub fewer_left : (q id : ℕ) → check_page log p last ≡ again (checkpoint q id) → PagesLeft log q id
    fewer_left q id e = record {
      rounds = h.rounds - 1;
      enough = omega (arith, h.enough, goes_further log p last q id e);
      same = sym (rw one_round at (from_on log (h.rounds - 1) p last l q id e)) ∙ h.same;
    }

-- ---- the whole

module _ (store : List ℕ) (n : ℕ) where
  pub check_bad : too_long store n ≡ true → refused 1 0 ≡ check_of store n
  unfolding check_of
  check_bad t = rw t

  module _ (t : too_long store n ≡ false) where
    pub check_good : check_log (take n store) ≡ check_of store n
    unfolding check_of
    check_good = rw t

    -- the part that is checked ends at the length
    pub check_part : (w : ℕ) → w ≡ length (take w store) → w ≡ n → check_log (take w store) ≡ check_of store n
    check_part w size e = rw e check_good
