-- Recovery never answers 7. Assumes nothing.
use Prim.Native.Nat.{ℕ, zero, suc, ◌-◌}
use mathlib.Core.Path.{◌≡◌, refl, sym}
use mathlib.Core.Logic.{⊎_elim}
use mathlib.Core.List.{List}
use lib.ListN.{length}
use native.Mathlib.Omega.{arith}
use Rattle.refusal.proofs.Cases.{same_or_not, which}
use Rattle.page.specs.Size.{page_count}
use Rattle.page.specs.Mark.{mark_at}
use Rattle.page.specs.Entry.{Starting, short, cut, whole, entry_at}
use Rattle.page.proofs.Marking.{mark_cases}
use Rattle.catalog.specs.Bounds.{too_long}
use Rattle.catalog.specs.State.{top_id}
use Rattle.catalog.specs.Recovery.{Recovering, recovered, refused, at_whole, first_pages, walk_back, excess_of, whole_pages, above_stored, recover_of}
use Rattle.catalog.proofs.Laws.Bounds.{fitting, length_log}
use Rattle.catalog.proofs.Laws.Recovery.Steps.{whole_used, whole_goes_on, back_later, back_bad, back_short, back_cut, back_whole, back_fresh, back_none, from_last, recover_bad, recover_cut}

abbrev NotSeven : Recovering → Type 0
NotSeven (recovered st excess dropped) = Unit {0}
NotSeven (refused number value) = number ≡ 7 → ⊥

module _ (pages excess : ℕ) where
  whole_not : (n id dropped : ℕ) → NotSeven (at_whole n id excess dropped)
  whole_not n id dropped = ⊎_elim
      (λ u. rw (← whole_used n id excess dropped u) (λ e. omega arith))
      (λ u. rw (← whole_goes_on n id excess dropped u _ refl) tt)
      (same_or_not id top_id)

  walk_not : (q : ℕ) (log : List ℕ) → NotSeven (walk_back pages excess log q)
  walk_not zero log = ⊎_elim
      (λ z. rw (back_fresh pages excess log 0 refl z) tt)
      (λ z. rw (back_none pages excess log 0 refl z) (λ e. omega arith))
      (same_or_not (page_count log) 0)
  walk_not (suc p) log = ⊎_elim
      (λ m. start m (entry_at log p) refl (walk_not p))
      (⊎_elim
      (λ m. rw (back_later pages excess log p (suc p) refl m) (walk_not p log))
      (λ m. rw (back_bad pages excess log p (suc p) refl m) (λ e. omega arith)))
      (mark_cases (mark_at log p))
    where
      start : mark_at log p ≡ 1 → (x : Starting) → entry_at log p ≡ x → ((other : List ℕ) → NotSeven (walk_back pages excess other p)) → NotSeven (walk_back pages excess log (suc p))
      start m short h go = rw (back_short pages excess log p (suc p) refl m h) (λ e. omega arith)
      start m (cut id) h go = rw (back_cut pages excess log p (suc p) refl m id h) (go (first_pages log p))
      start m (whole id len after) h go = rw (back_whole pages excess log p (suc p) refl m id len after h) (whole_not (length log) id (pages - page_count log))

-- a stored ceiling refuses nothing
above_not : (stored : ℕ) (r : Recovering) → NotSeven r → NotSeven (above_stored stored r)
above_not stored (recovered st excess dropped) h = tt
above_not stored (refused number value) h = h

recover_not : (store : List ℕ) (n stored : ℕ) → NotSeven (recover_of store n stored)
recover_not store n stored = ⊎_elim
    (λ t. rw (← recover_bad store n stored t) (λ e. omega arith))
    (λ t.
    let w = n - excess_of n in
    let m = page_count (whole_pages store n) in
    let size = length_log store w (omega (arith, (fitting store n t).inside)) in
    rw (← recover_cut store n stored t w (sym size) refl, from_last (whole_pages store n) (excess_of n))
    (above_not stored (walk_back m (excess_of n) (whole_pages store n) m) (walk_not m (excess_of n) m (whole_pages store n))))
    (which (too_long store n))

-- ---- THEOREM: on any bytes

pub recover_never_seven : (store : List ℕ) (n stored value : ℕ) → recover_of store n stored ≡ refused 7 value → ⊥
recover_never_seven store n stored value e = (rw e at (recover_not store n stored)) refl
