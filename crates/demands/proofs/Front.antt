-- The first pages of a log: what they have of it, and when they are sound as it is. Assumes nothing.
use Prim.Native.Nat.{ℕ, ◌≤◌, ◌<◌}
use mathlib.Core.Path.{◌≡◌, sym, ◌∙◌}
use mathlib.Core.List.{List}
use native.Mathlib.Omega.{arith}
use Rattle.page.specs.Size.{page_count, page_at}
use Rattle.page.specs.Mark.{mark_at}
use Rattle.page.specs.Entry.{length_at, id_at, after_at}
use Rattle.page.proofs.Reading.{mark_same, length_same, id_same}
use Rattle.catalog.specs.Recovery.{first_pages}
use Rattle.catalog.proofs.Laws.Recovery.Steps.{length_first, count_first, page_first}
use Rattle.demands.specs.Sound.{Start, Sound}

-- no entry that starts in the first m pages goes on after them
abbrev pub Closed : List ℕ → ℕ → Type 0
Closed log m = (p : ℕ) → Start log p → p < m → after_at log p ≤ m

module _ (log : List ℕ) (m : ℕ) (inside : m ≤ page_count log) where
  abbrev front : List ℕ
  front = first_pages log m

  count : page_count front ≡ m
  count = count_first log m inside

  module _ (p : ℕ) (below : p < m) where
    in_front : p < page_count front
    in_front = omega (arith, count)

    page_front : page_at log p ≡ page_at front p
    page_front = page_first log m inside p below

    pub mark_front : mark_at log p ≡ mark_at front p
    mark_front = mark_same log front p p page_front

    pub length_front : length_at log p ≡ length_at front p
    length_front = length_same log front p p page_front

    pub id_front : id_at log p ≡ id_at front p
    id_front = id_same log front p p page_front

    pub start_front : Start log p → Start front p
    start_front h = record { inside = in_front; marked = sym mark_front ∙ h.marked }

  pub front_start : (p : ℕ) → Start front p → (p < m) × Start log p
  front_start p h =
      let below : p < m = omega (arith, h.inside, count) in
      (below, record { inside = omega arith; marked = mark_front p below ∙ h.marked })

  pub sound_front : Sound log → Closed log m → Sound front
  sound_front s closed = record {
    pages = omega (arith, length_first log m inside);
    marks = λ p h.
        let below : p < m = omega (arith, count) in
        rw (mark_front p below) at (s.marks p (omega arith));
    first = λ h.
        let below : 0 < m = omega (arith, count) in
        rw (mark_front 0 below) at (s.first (omega arith));
    long = λ p h.
        let b = front_start p h in
        rw (length_front p b.0) at (s.long p b.1);
    apart = λ p q hp hq l.
        let b = front_start p hp in
        let c = front_start q hq in
        rw (length_front p b.0) at (s.apart p q b.1 c.1 l);
    within = λ p h.
        let b = front_start p h in
        rw count (rw (length_front p b.0) at (closed p b.1 b.0));
    rising = λ p q hp hq l.
        let b = front_start p hp in
        let c = front_start q hq in
        omega (arith, id_front p b.0, id_front q c.0, s.rising p q b.1 c.1 l);
    from_one = λ p h.
        let b = front_start p h in
        omega (arith, id_front p b.0, s.from_one p b.1);
  }
