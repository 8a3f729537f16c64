-- What holds of each answer of taking an id, or of raising the ceiling, holds of the call's. Assumes nothing.
use Prim.Native.Nat.{ℕ, ◌+◌, ◌<◌}
use mathlib.Core.Path.{refl, subst}
use mathlib.Core.Logic.{⊎_elim}
use Rattle.refusal.proofs.Cases.{side, same_or_not, which}
use Rattle.catalog.specs.State.{state_of, top_id, Taking, taken, refused, take_of}
use Rattle.catalog.specs.Raise.{Raising, raised, refused as unraised, bad_step, raise_of}
use Rattle.catalog.specs.declared.state.State.{State}
use Rattle.catalog.proofs.Laws.States.{take_refused_lem, take_at_ceiling, take_moves, raise_refused_lem, raise_adds}

module _ (st : State) where
  pub by_take : (P : Taking → Type 0) → P (refused 9 0) → P (refused 30 0)
      → (st.next < st.ceiling → P (taken st.next (state_of st.length st.last (st.next + 1) st.ceiling))) → P (take_of st)
  by_take P nine thirty id = ⊎_elim
      (λ u. subst P (take_refused_lem st u) nine)
      (λ u. ⊎_elim
      (λ l. subst P (take_moves st u l (st.next + 1) refl) (id l))
      (λ l. subst P (take_at_ceiling st u l) thirty)
      (side st.next st.ceiling))
      (same_or_not st.next top_id)

  pub by_raise : (step : ℕ) (P : Raising → Type 0) → P (unraised 31 0) → P (raised (state_of st.length st.last st.next (st.ceiling + step))) → P (raise_of st step)
  by_raise step P kept raises = ⊎_elim
      (λ t. subst P (raise_refused_lem st step t) kept)
      (λ t. subst P (raise_adds st step t (st.ceiling + step) refl) raises)
      (which (bad_step st.ceiling step))
