-- Where the last entry is not cut, nothing is dropped: recovery answers what one that refuses a cut entry does. Assumes nothing.
use Prim.Native.Nat.{ℕ, zero, suc, ◌-◌}
use mathlib.Core.Path.{◌≡◌, refl, sym, ap, ◌∙◌}
use mathlib.Core.Bool.{Bool, true, false}
use mathlib.Core.Logic.{⊎_elim}
use mathlib.Core.List.{List}
use lib.Dec.{eqb}
use lib.ListN.{length}
use native.Mathlib.Omega.{arith}
use borrow.Author.Tests.{eqb-true}
use Rattle.refusal.specs.Pick.{pick}
use Rattle.page.specs.Size.{page_count}
use Rattle.page.specs.Mark.{mark_at}
use Rattle.page.specs.Entry.{Starting, short, cut, whole, entry_at}
use Rattle.page.proofs.Marking.{mark_cases, by_start, by_later, by_bad}
use Rattle.catalog.specs.Bounds.{too_long}
use Rattle.catalog.specs.State.{fresh}
use Rattle.catalog.specs.Recovery.{Recovering, recovered, refused, at_whole, walk_back, excess_of, whole_pages, above_stored, recover_log, recover_of}
use Rattle.catalog.proofs.Laws.Recovery.Steps.{back_later, back_bad, back_short, back_whole}
use Rattle.demands.specs.Recovery.{strict_at, strict_back, strict_of}

module _ (log : List ℕ) (excess : ℕ) where
  abbrev walk : ℕ → Recovering
  walk = walk_back (page_count log) excess log

  abbrev strict : ℕ → Recovering
  strict = strict_back excess log

  module _ (p : ℕ) where
    strict_later : mark_at log p ≡ 0 → strict (suc p) ≡ strict p
    unfolding strict_back
    strict_later m = by_later (mark_at log p) _ _ _ m

    -- at a start, unless its entry is cut
    start_same : mark_at log p ≡ 1 → (strict (suc p) ≡ refused 7 p → ⊥) → walk (suc p) ≡ strict (suc p)
    unfolding strict_back strict_at
    start_same m uncut = go (entry_at log p) refl
      where
        here : strict (suc p) ≡ strict_at (length log) excess p (entry_at log p)
        here = by_start (mark_at log p) _ _ _ m

        go : (e : Starting) → entry_at log p ≡ e → walk (suc p) ≡ strict (suc p)
        go short h = back_short (page_count log) excess log p (suc p) refl m h ∙ sym (here ∙ rw h)
        go (cut id) h = absurd (uncut (here ∙ rw h))
        go (whole id len after) h =
            let none : page_count log - page_count log ≡ 0 = omega arith in
            back_whole (page_count log) excess log p (suc p) refl m id len after h ∙ ap (at_whole (length log) id excess) none ∙ sym (here ∙ rw h)

  walk_same : (q : ℕ) → ((s : ℕ) → strict q ≡ refused 7 s → ⊥) → walk q ≡ strict q
  unfolding walk_back strict_back
  walk_same zero uncut = go (eqb (page_count log) 0) refl
    where
      go : (t : Bool) → eqb (page_count log) 0 ≡ t → pick t (recovered fresh excess (page_count log)) (refused 8 0) ≡ pick t (recovered fresh excess 0) (refused 8 0)
      go true e = ap (recovered fresh excess) (eqb-true (page_count log) 0 e)
      go false e = refl
  walk_same (suc p) uncut = ⊎_elim
      (λ m. start_same p m (uncut p))
      (⊎_elim
      (λ m. back_later (page_count log) excess log p (suc p) refl m ∙ walk_same p (λ s e. uncut s (strict_later p m ∙ e)) ∙ sym (strict_later p m))
      (λ m. back_bad (page_count log) excess log p (suc p) refl m ∙ sym (by_bad (mark_at log p) _ _ _ m)))
      (mark_cases (mark_at log p))

-- ---- THEOREM: on any bytes

pub uncut_same : (store : List ℕ) (n stored : ℕ) → ((s : ℕ) → strict_of store n stored ≡ refused 7 s → ⊥) → recover_of store n stored ≡ strict_of store n stored
unfolding recover_of recover_log strict_of
uncut_same store n stored uncut = go (too_long store n) uncut
  where
    go : (t : Bool) → ((s : ℕ) → pick t (refused 1 0) (above_stored stored (strict (whole_pages store n) (excess_of n) (page_count (whole_pages store n)))) ≡ refused 7 s → ⊥)
        → pick t (refused 1 0) (above_stored stored (walk (whole_pages store n) (excess_of n) (page_count (whole_pages store n))))
        ≡ pick t (refused 1 0) (above_stored stored (strict (whole_pages store n) (excess_of n) (page_count (whole_pages store n))))
    go true h = refl
    go false h = ap (above_stored stored) (walk_same (whole_pages store n) (excess_of n) (page_count (whole_pages store n)) (λ s e. h s (ap (above_stored stored) e)))
