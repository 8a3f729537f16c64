-- A sound log of which only the first pages are there: what is left of it is sound, and recovery gives that. Assumes nothing.
use Prim.Native.Nat.{ℕ, zero, suc, ◌-◌, ◌*◌, ◌/◌, ◌≤◌, ◌<◌}
use mathlib.Core.Path.{◌≡◌, refl, sym, ap, ◌∙◌}
use mathlib.Core.Logic.{inl, inr, ⊎_elim}
use mathlib.Core.List.{List, ◌++◌}
use lib.ListN.{length, take, drop, length-append, take-append-drop}
use lib.Seq.{length-take-le, take-append-le}
use native.Mathlib.Omega.{arith}
use Rattle.refusal.proofs.Cases.{side, order, same_or_not}
use Rattle.page.specs.Size.{page_size, page_count}
use Rattle.page.specs.Mark.{mark_at}
use Rattle.page.specs.Entry.{cut, whole, id_at, data_length_at, after_at, entry_at}
use Rattle.page.proofs.Starting.{whole_at, cut_at, after_start}
use Rattle.catalog.specs.Bounds.{Fits}
use Rattle.catalog.specs.State.{top_id}
use Rattle.catalog.specs.Recovery.{Recovering, at_whole, first_pages, walk_back, excess_of, above_stored, recover_log, recover_of}
use Rattle.catalog.proofs.Laws.Bounds.{not_too_long}
use Rattle.catalog.proofs.Laws.Recovery.Steps.{whole_used, whole_goes_on, back_later, back_cut, back_whole, back_fresh, length_first, count_first, first_first, from_last, recover_cut}
use Rattle.demands.specs.Sound.{Start, Sound, Last}
use Rattle.demands.proofs.Front.{mark_front, length_front, start_front, front_start, Closed, sound_front}
use Rattle.demands.specs.Recovery.{RightRecovery, empty, used_up, goes_on, Left, RightCut}

module _ (log : List ℕ) (s : Sound log) (m : ℕ) (inside : m ≤ page_count log) where
  abbrev front : List ℕ
  front = first_pages log m

  count : page_count front ≡ m
  count = count_first log m inside

  -- ---- the walk back in its first m pages comes to the last start

  module _ (pages excess stored : ℕ) where
    abbrev walk : ℕ → Recovering
    walk q = walk_back pages excess front q

    record LastStart (q : ℕ) : Type 0 where
      pub page : ℕ
      pub start : Start log page
      pub below : page < m
      pub none : (p : ℕ) → Start log p → p < m → p ≤ page
      pub is : walk q ≡ walk (suc page)

    walked : (q : ℕ) → q ≤ m → 0 < m → ((p : ℕ) → Start log p → p < m → p < q) → LastStart q
    walked zero l some clear = absurd (omega (arith, clear 0 (record { inside = omega arith; marked = s.first (omega arith) }) some))
    walked (suc q) l some clear = ⊎_elim (later (walked q)) here (s.marks q (omega arith))
      where
        here : mark_at log q ≡ 1 → LastStart (suc q)
        here k = record {
          page = q;
          start = record { inside = omega arith; marked = k };
          below = omega arith;
          none = λ p h b. omega (arith, clear p h b);
          is = refl;
        }

        later : (q ≤ m → 0 < m → ((p : ℕ) → Start log p → p < m → p < q) → LastStart q) → mark_at log q ≡ 0 → LastStart (suc q)
        later go k =
            let e = go (omega arith) some (λ p h b. ⊎_elim
            (λ e. absurd (omega (arith, ap (mark_at log) e, h.marked, k)))
            (⊎_elim (λ a. a) (λ a. absurd (omega (arith, clear p h b)))) (order p q)) in
            record { page = e.page; start = e.start; below = e.below; none = e.none; is = back_later pages excess front q (suc q) refl (sym (mark_front log m inside q (omega arith)) ∙ k) ∙ e.is }

    last_start : 0 < m → LastStart m
    last_start some = walked m (omega arith) some (λ p h b. b)

    -- ---- and gives what is right, if none of their entries goes on after them

    abbrev Right : Type 0
    Right = RightRecovery front stored excess (pages - m) (above_stored stored (walk m))

    right_none : m ≡ 0 → Right
    right_none z =
        let e : pages - m ≡ pages = omega arith in
        rw (e, back_fresh pages excess front m z (count ∙ z)) (empty (omega (arith, length_first log m inside)))

    module _ (closed : Closed log m) (e : LastStart m) where
      abbrev p : ℕ
      p = e.page

      there : Start front p
      there = start_front log m inside p e.below e.start

      is_last : Last front p
      is_last = record { start = there; none = λ q h. let b = front_start log m inside q h in e.none q b.1 b.0 }

      whole_there : entry_at front p ≡ whole (id_at front p) (data_length_at front p) (after_at front p)
      whole_there = whole_at front p ((sound_front log m inside s closed).long p there) ((sound_front log m inside s closed).within p there)

      walk_is : walk m ≡ at_whole (length front) (id_at front p) excess (pages - m)
      walk_is = e.is ∙ rw count at (back_whole pages excess front p (suc p) refl there.marked _ _ _ whole_there)

      right_some : Right
      right_some = ⊎_elim
          (λ u. rw (walk_is, ← whole_used (length front) (id_at front p) excess (pages - m) u) (used_up p is_last u))
          (λ u. rw (walk_is, ← whole_goes_on (length front) (id_at front p) excess (pages - m) u _ refl) (goes_on p is_last u))
          (same_or_not (id_at front p) top_id)

    pub right_closed : Closed log m → Right
    right_closed closed = ⊎_elim (λ some. right_some closed (last_start some)) (λ z. right_none (omega arith)) (side 0 m)

-- ---- what is left of any first m pages

module _ (log : List ℕ) (s : Sound log) (m : ℕ) (inside : m ≤ page_count log) (pages excess stored : ℕ) where
  record LeftRight : Type 0 where
    pub left : ℕ
    pub is_left : Left log m left
    pub sound : Sound (first_pages log left)
    pub right : RightRecovery (first_pages log left) stored excess (pages - left) (above_stored stored (walk_back pages excess (first_pages log m) m))

  -- no entry is cut: all of them
  all_left : Closed log m → LeftRight
  all_left closed = record {
    left = m;
    is_left = record {
      most = omega arith;
      exact = λ p h. (closed p h, λ a. omega (arith, after_start log p));
      edge = inl refl;
    };
    sound = sound_front log m inside s closed;
    right = right_closed log s m inside pages excess stored closed;
  }

  module _ (e : LastStart log s m inside pages excess stored m) where
    abbrev last : ℕ
    last = e.page

    -- the entries before the last one end before it
    before_last : (p : ℕ) → Start log p → p < last → after_at log p ≤ last
    before_last p h l = s.apart p last h e.start l

    -- the last entry is whole
    whole_left : after_at log last ≤ m → LeftRight
    whole_left a = all_left (λ p h b. ⊎_elim
        (λ f. rw f a)
        (⊎_elim (λ l. omega (arith, before_last p h l, e.below)) (λ l. absurd (omega (arith, e.none p h b))))
        (order p last))

    -- it is cut: the pages before it
    cut_left : m < after_at log last → LeftRight
    cut_left a =
        let below : last ≤ page_count log = omega (arith, e.below) in
        let front = first_pages log m in
        let size = length_front log m inside last e.below in
        let there = start_front log m inside last e.below e.start in
        let past : page_count front < after_at log last = omega (arith, count_first log m inside) in
        let is_cut : entry_at front last ≡ cut (id_at front last) = cut_at front last (rw size at (s.long last e.start)) (rw size at past) in
        let is : walk_back pages excess front m ≡ walk_back pages excess (first_pages log last) last =
        e.is ∙ rw (first_first log m inside last (omega (arith, e.below))) at (back_cut pages excess front last (suc last) refl there.marked _ is_cut) in
        record {
          left = last;
          is_left = record {
            most = omega (arith, e.below);
            exact = λ p h. (
              λ l. omega (arith, before_last p h l, e.below),
              λ b. ⊎_elim
                  (λ f. absurd (omega (arith, ap (after_at log) f)))
                  (⊎_elim (λ l. l) (λ l. absurd (omega (arith, e.none p h (omega (arith, after_start log p))))))
                  (order p last),
            );
            edge = inr e.start;
          };
          sound = sound_front log last below s before_last;
          right = rw is (right_closed log s last below pages excess stored before_last);
        }

  left_right : LeftRight
  left_right = ⊎_elim
      (λ some. let e = last_start log s m inside pages excess stored some in ⊎_elim (cut_left e) (whole_left e) (side m (after_at log e.page)))
      (λ z. all_left (λ p h l. absurd (omega arith)))
      (side 0 m)

-- ---- THEOREM: a sound log that is cut at any byte: some first bytes of it, and anything after them

pub cut_right : (kept more rest : List ℕ) → Sound (kept ++ more) → Fits (kept ++ rest) (length kept) → (stored : ℕ)
    → RightCut (kept ++ more) (length kept) stored (recover_of (kept ++ rest) (length kept) stored)
cut_right kept more rest s f stored =
    let n = length kept in
    let m = n / page_size in
    let inside : m ≤ page_count (kept ++ more) = omega (arith, length-append kept more) in
    let front = first_pages (kept ++ more) m in
    let same : take (m * page_size) (kept ++ rest) ≡ front = take-append-le (m * page_size) kept rest (omega arith) ∙ sym (take-append-le (m * page_size) kept more (omega arith)) in
    let e = left_right (kept ++ more) s m inside m (excess_of n) stored in
    let size : m * page_size ≡ length (take (m * page_size) (kept ++ rest)) = rw same (sym (length_first (kept ++ more) m inside)) in
    let is : above_stored stored (recover_log front (excess_of n)) ≡ recover_of (kept ++ rest) n stored =
    rw same at (recover_cut (kept ++ rest) n stored (not_too_long (kept ++ rest) n f) (m * page_size) size (omega arith)) in
    record {
      left = e.left;
      is_left = e.is_left;
      sound = e.sound;
      right = rw (← is, from_last front (excess_of n), count_first (kept ++ more) m inside) e.right;
    }

pub cut_at_byte : (log : List ℕ) → Sound log → (n : ℕ) → n ≤ length log → (rest : List ℕ) → Fits (take n log ++ rest) n → (stored : ℕ)
    → RightCut log n stored (recover_of (take n log ++ rest) n stored)
cut_at_byte log s n l rest f stored =
    let size = length-take-le n log l in
    let whole = take-append-drop n log in
    rw (whole, size) at (cut_right (take n log) (drop n log) rest (rw whole s) (rw size f) stored)
