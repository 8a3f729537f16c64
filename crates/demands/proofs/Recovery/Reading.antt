-- Which pages recovery reads: those from an entry on that stands apart from the starts after it. Assumes nothing.
use Prim.Native.Nat.{ℕ, zero, suc, ◌-◌, ◌*◌, ◌/◌, ◌%◌, ◌≤◌, ◌<◌}
use mathlib.Core.Path.{◌≡◌, refl, sym, ap, ◌∙◌}
use mathlib.Core.Logic.{⊎_elim}
use mathlib.Core.List.{List}
use lib.ListN.{length, drop}
use native.Mathlib.Omega.{arith}
use Rattle.refusal.proofs.Cases.{order}
use Rattle.page.specs.Size.{page_size, pages_for, page_count, page_at}
use Rattle.page.specs.Mark.{mark_at}
use Rattle.page.specs.Entry.{Starting, short, cut, whole, after_at, entry_at}
use Rattle.page.proofs.Marking.{mark_cases}
use Rattle.page.proofs.Paging.{page_from}
use Rattle.page.proofs.Reading.{mark_same, entry_same}
use Rattle.page.proofs.Starting.{is_cut}
use Rattle.catalog.specs.Bounds.{Fits}
use Rattle.catalog.specs.Recovery.{at_whole, first_pages, walk_back, excess_of, whole_pages, above_stored, recover_of}
use Rattle.catalog.proofs.Laws.Bounds.{not_too_long, length_log}
use Rattle.catalog.proofs.Laws.Recovery.Steps.{back_later, back_bad, back_short, back_cut, back_whole, length_first, count_first, first_first, page_first, all_pages_lem, from_last, recover_cut}
use Rattle.demands.specs.Sound.{Start, Sound}
use Rattle.demands.specs.Recovery.{Apart}
use Rattle.demands.proofs.Front.{mark_front, length_front}

-- ---- two logs of one length that agree from an entry on

module _ (log other : List ℕ) (s : ℕ) (a : Apart log s) (size : length log ≡ length other)
    (same : drop (s * page_size) log ≡ drop (s * page_size) other) (pages excess : ℕ) where
  -- what is left of both
  module _ (left : ℕ) (inside : left ≤ page_count log) where
    there : left ≤ page_count other
    there = omega (arith, ap (λ (k : ℕ). k / page_size) size)

    module _ (p : ℕ) (from : s ≤ p) (below : p < left) where
      page_alike : page_at (first_pages log left) p ≡ page_at (first_pages other left) p
      page_alike = sym (page_first log left inside p below) ∙ page_from log other s p from same ∙ page_first other left there p below

      mark_alike : mark_at (first_pages log left) p ≡ mark_at (first_pages other left) p
      mark_alike = mark_same (first_pages log left) (first_pages other left) p p page_alike

      count_alike : page_count (first_pages log left) ≡ page_count (first_pages other left)
      count_alike = count_first log left inside ∙ sym (count_first other left there)

      length_alike : length (first_pages log left) ≡ length (first_pages other left)
      length_alike = length_first log left inside ∙ sym (length_first other left there)

      entry_alike : entry_at (first_pages log left) p ≡ entry_at (first_pages other left) p
      entry_alike = entry_same (first_pages log left) (first_pages other left) p page_alike count_alike

      -- from a start on, if they go on alike where its entry is cut and dropped
      start_alike : mark_at (first_pages log left) p ≡ 1
          → ((id : ℕ) → entry_at (first_pages log left) p ≡ cut id → walk_back pages excess (first_pages log p) p ≡ walk_back pages excess (first_pages other p) p)
          → walk_back pages excess (first_pages log left) (suc p) ≡ walk_back pages excess (first_pages other left) (suc p)
      start_alike m dropped = go (entry_at (first_pages log left) p) refl
        where
          k : mark_at (first_pages other left) p ≡ 1
          k = sym mark_alike ∙ m

          go : (e : Starting) → entry_at (first_pages log left) p ≡ e → walk_back pages excess (first_pages log left) (suc p) ≡ walk_back pages excess (first_pages other left) (suc p)
          go short h =
              back_short pages excess (first_pages log left) p (suc p) refl m h
              ∙ sym (back_short pages excess (first_pages other left) p (suc p) refl k (sym entry_alike ∙ h))
          go (cut id) h =
              back_cut pages excess (first_pages log left) p (suc p) refl m id h
              ∙ (rw (first_first log left inside p (omega arith), first_first other left there p (omega arith)) (dropped id h))
              ∙ sym (back_cut pages excess (first_pages other left) p (suc p) refl k id (sym entry_alike ∙ h))
          go (whole id len after) h =
              back_whole pages excess (first_pages log left) p (suc p) refl m id len after h
              ∙ ap (λ (n : ℕ). at_whole n id excess (pages - page_count (first_pages log left))) length_alike
              ∙ ap (λ (n : ℕ). at_whole (length (first_pages other left)) id excess (pages - n)) count_alike
              ∙ sym (back_whole pages excess (first_pages other left) p (suc p) refl k id len after (sym entry_alike ∙ h))

  abbrev Alike : ℕ → ℕ → Type 0
  Alike left q = walk_back pages excess (first_pages log left) q ≡ walk_back pages excess (first_pages other left) q

  -- the entry ends in what is left, and the walk has not come below it
  walk_alike : (q left : ℕ) → left ≤ page_count log → q ≤ left → s < q → after_at log s ≤ left → Alike left q
  walk_alike zero left inside l above ends = absurd (omega arith)
  walk_alike (suc p) left inside l above ends = ⊎_elim here (⊎_elim (λ b. absurd (omega arith)) (beyond (walk_alike p))) (order p s)
    where
      here : p ≡ s → Alike left (suc p)
      here e =
          let below : s < left = omega arith in
          rw e (start_alike left inside s (omega arith) below (sym (mark_front log left inside s below) ∙ a.start.marked)
          (λ id h. absurd (omega (arith, is_cut (first_pages log left) s h, count_first log left inside, ap pages_for (length_front log left inside s below)))))

      beyond : ((left' : ℕ) → left' ≤ page_count log → p ≤ left' → s < p → after_at log s ≤ left' → Alike left' p) → s < p → Alike left (suc p)
      beyond go over = ⊎_elim
          (λ m. start_alike left inside p (omega arith) (omega arith) m (λ id h.
          let start : Start log p = record { inside = omega arith; marked = mark_front log left inside p (omega arith) ∙ m } in
          go p (omega arith) (omega arith) over (a.before p start over)))
          (⊎_elim
          (λ m.
          back_later pages excess (first_pages log left) p (suc p) refl m
          ∙ go left inside (omega arith) over ends
          ∙ sym (back_later pages excess (first_pages other left) p (suc p) refl (sym (mark_alike left inside p (omega arith) (omega arith)) ∙ m)))
          (λ m.
          back_bad pages excess (first_pages log left) p (suc p) refl m
          ∙ sym (back_bad pages excess (first_pages other left) p (suc p) refl (rw (mark_alike left inside p (omega arith) (omega arith)) at m))))
          (mark_cases (mark_at (first_pages log left) p))

-- ---- THEOREM: stores that agree from the start of such an entry on, up to the length that is recovered, recover alike

pub recover_alike : (store other : List ℕ) (n stored s : ℕ) → Fits store n → Fits other n → Apart (whole_pages store n) s
    → drop (s * page_size) (whole_pages store n) ≡ drop (s * page_size) (whole_pages other n) → recover_of store n stored ≡ recover_of other n stored
recover_alike store other n stored s f g apart same =
    let w = n - excess_of n in
    let log = whole_pages store n in
    let a = length_log store w (omega (arith, f.inside)) in
    let b = length_log other w (omega (arith, g.inside)) in
    let m = page_count log in
    let e : page_count (whole_pages other n) ≡ m = ap (λ (k : ℕ). k / page_size) (b ∙ sym a) in
    let alike = walk_alike log (whole_pages other n) s apart (a ∙ sym b) same m (excess_of n) m m (omega arith) (omega arith) apart.start.inside apart.within in
    let whole : length log % page_size ≡ 0 = omega (arith, a) in
    let whole' : length (whole_pages other n) % page_size ≡ 0 = omega (arith, b) in
    let walked =
    from_last log (excess_of n)
    ∙ (rw (all_pages_lem log m refl whole, all_pages_lem (whole_pages other n) m (sym e) whole') at alike)
    ∙ ap (λ (k : ℕ). walk_back k (excess_of n) (whole_pages other n) k) (sym e)
    ∙ sym (from_last (whole_pages other n) (excess_of n)) in
    sym (recover_cut store n stored (not_too_long store n f) w (sym a) refl)
    ∙ ap (above_stored stored) walked
    ∙ recover_cut other n stored (not_too_long other n g) w (sym b) refl

-- of a sound log every entry stands apart
pub sound_apart : (log : List ℕ) → Sound log → (s : ℕ) → Start log s → Apart log s
sound_apart log sound s h = record { start = h; before = λ q k l. sound.apart s q h k l; within = sound.within s h }
