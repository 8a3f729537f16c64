-- 11.6: what the start of a scan and its steps hand over on a sound log. Assumes nothing.
use Prim.Native.Nat.{ℕ, ◌*◌, ◌≤◌, ◌<◌}
use mathlib.Core.Path.{◌≡◌, refl, ap, ◌∙◌}
use mathlib.Core.Bool.{false}
use mathlib.Core.Logic.{⊎_elim}
use mathlib.Core.List.{List, []}
use native.Mathlib.Omega.{arith}
use borrow.Author.Tests.{le-ltb, lt-leb}
use lib.ListN.{take}
use Rattle.page.specs.Size.{page_size, page_count}
use Rattle.page.specs.Entry.{id_at}
use Rattle.demands.specs.Sound.{Start, SoundStore}
use Rattle.catalog.specs.Lookup.{Looking, found, absent, refused, find_of}
use Rattle.scanning.specs.Range.{above_lower, holds_of}
use Rattle.scanning.specs.Scan.{Beginning, at, from_look, from_end, scan_of}
use Rattle.demands.specs.Lookup.{standing, RightStanding}
use Rattle.demands.specs.Scan.{Enough, Beyond, Scans}
use Rattle.catalog.specs.declared.state.State.{State}
use Rattle.std.specs.declared.ops.Bound.{Bound}
use Rattle.std.specs.declared.ops.Bound.TheVariants.{Unbounded, Included, Excluded}
use Rattle.scanning.specs.declared.range.Range.{Range}
use Rattle.refusal.proofs.Cases.{side}
use Rattle.demands.proofs.Sound.{sound_not_bad, sound_length}
use Rattle.catalog.proofs.Laws.Lookup.Tests.{find_zero, find_late}
use Rattle.demands.proofs.Lookup.Right.{find_right}
use Rattle.scanning.proofs.Laws.Start.{scan_from}
use Rattle.demands.proofs.Scan.Listed.{items_of, listed, items_end, items_skip}
use Rattle.demands.proofs.Scan.Handed.{hands_from}

below_lower : (range : Range) (id : ℕ) → above_lower range.lower id ≡ false → holds_of range id ≡ false
unfolding holds_of
below_lower range id e = rw e

module _ (store : List ℕ) (st : State) (range : Range) (m : ℕ) (good : SoundStore store st.length) (enough : Enough (take st.length store) range m) where
  abbrev log : List ℕ
  log = take st.length store

  -- ---- from a page before which every id is below the lower end

  from_page : (p : ℕ) → p ≤ page_count log → (r : Beginning) → r ≡ at (p * page_size)
      → ((q : ℕ) → Start log q → q < p → above_lower range.lower (id_at log q) ≡ false)
      → (Beyond range.lower st.next → ⊥) → Scans store st range m r
  from_page p l r e f known =
      let first : items_of log range 0 ≡ items_of log range p = items_skip log range p 0 p (omega arith) l (λ q b a c. below_lower range (id_at log q) (f q b c)) in
      record {
        cursor = p * page_size;
        started = e;
        items = items_of log range 0;
        hands = rw first (hands_from store st range m good enough p l);
        listing = λ x. listed log range good.sound;
        nothing = λ x. absurd (known x);
      }

  -- from where the lookup of the lower end's id says
  from_look_right : (id : ℕ) → ((x : ℕ) → x < id → above_lower range.lower x ≡ false) → (Beyond range.lower st.next → ⊥)
      → (r : Looking) → RightStanding log id (standing r) → Scans store st range m (from_look r)
  from_look_right id f known (found position len) h =
      from_page h.page (omega (arith, h.start.inside)) (at position) (ap at h.at_page)
      (λ q b l. f (id_at log q) (omega (arith, h.has, good.sound.rising q h.page b h.start l))) known
  from_look_right id f known (absent position) h =
      from_page h.page (⊎_elim (λ e. omega arith) (λ b. omega (arith, b.inside)) h.edge) (at position) (ap at h.at_page)
      (λ q b l. f (id_at log q) (h.below q b l)) known
  from_look_right id f known (refused number value) h = absurd h

  -- ---- from the log's end

  from_end_lem : (r : Beginning) → r ≡ at st.length → Beyond range.lower st.next → Scans store st range m r
  from_end_lem r e beyond =
      let c : st.length ≡ page_count log * page_size = omega (arith, good.sound.pages, sound_length good) in
      record {
        cursor = page_count log * page_size;
        started = e ∙ ap at c;
        items = [];
        hands = rw (← items_end log range (page_count log) (omega arith)) (hands_from store st range m good enough (page_count log) (omega arith));
        listing = λ x. absurd (x beyond);
        nothing = λ x. refl;
      }

  -- ---- by the lower end

  at_id : (id : ℕ) → ((x : ℕ) → x < id → above_lower range.lower x ≡ false)
      → (Beyond range.lower st.next → (1 ≤ id) × (st.next ≤ id)) → ((1 ≤ id) × (st.next ≤ id) → Beyond range.lower st.next)
      → Scans store st range m (from_look (find_of store st id))
  at_id id f out into = ⊎_elim zeroth (λ some. ⊎_elim (known some) (late some) (side id st.next)) (side id 1)
    where
      zeroth : id < 1 → Scans store st range m (from_look (find_of store st id))
      zeroth z =
          rw (find_zero store st id (sound_not_bad good) (omega arith))
          (from_page 0 (omega arith) (at 0) refl (λ q b l. absurd (omega arith)) (λ x. omega (arith, (out x).0)))

      known : 1 ≤ id → id < st.next → Scans store st range m (from_look (find_of store st id))
      known some l =
          from_look_right id f (λ x. omega (arith, (out x).1)) (find_of store st id) (find_right store st id good some l)

      late : 1 ≤ id → st.next ≤ id → Scans store st range m (from_look (find_of store st id))
      late some l =
          rw (find_late store st id (sound_not_bad good) (λ e. omega arith) l) (from_end_lem (at st.length) refl (into (some, l)))

  begins : (lower : Bound ℕ) → range.lower ≡ lower → Scans store st range m (from_end store st lower)
  begins Unbounded e = from_page 0 (omega arith) (at 0) refl (λ q b l. absurd (omega arith)) (λ x. rw e at x)
  begins (Included id) e = at_id id (λ x l. rw (e, lt-leb id x l)) (λ x. rw e at x) (λ x. rw e x)
  begins (Excluded id) e = at_id id (λ x l. rw (e, le-ltb id x (omega arith))) (λ x. rw e at x) (λ x. rw e x)

  pub scan_right : Scans store st range m (scan_of store st range)
  scan_right = rw (← scan_from store st range (sound_not_bad good) range.lower refl) (begins range.lower refl)
