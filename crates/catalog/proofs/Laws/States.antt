-- A state by its four numbers, and the answers of taking an id and of raising the ceiling. Assumes nothing.
use Prim.Native.Nat.{ℕ, ◌+◌, ◌-◌, ◌^◌, ◌≤◌, ◌<◌}
use mathlib.Core.Path.{◌≡◌}
use mathlib.Core.Bool.{true, false, ◌||◌}
use mathlib.Core.Logic.{⊎_elim}
use native.Mathlib.Omega.{arith}
use lib.Dec.{eqb, ltb}
use borrow.Author.Tests.{eq-eqb, ne_eqb, lt-ltb, le-ltb, ltb-false}
use Rattle.refusal.proofs.Cases.{side}
use Rattle.catalog.specs.State.{state_of, top_id, taken, refused, take_of}
use Rattle.catalog.specs.Raise.{raised, refused as unraised, bad_step, raise_of}
use Rattle.catalog.specs.declared.state.State.{State}
use Rattle.catalog.proofs.Laws.Bounds.{neither}

-- kept: docs/PROVING.md names it
pub state_by : (n n' last last' next next' ceiling ceiling' : ℕ) → n ≡ n' → last ≡ last' → next ≡ next' → ceiling ≡ ceiling'
    → state_of n last next ceiling ≡ state_of n' last' next' ceiling'
state_by n n' last last' next next' ceiling ceiling' a b c d = rw (a, b, c, d)

-- ---- taking an id

module _ (st : State) where
  pub take_refused_lem : st.next ≡ top_id → refused 9 0 ≡ take_of st
  unfolding take_of
  take_refused_lem u = rw (eq-eqb st.next top_id u)

  -- what is tested once next is not the last id of all
  module _ (u : st.next ≡ top_id → ⊥) where
    pub take_at_ceiling : st.ceiling ≤ st.next → refused 30 0 ≡ take_of st
    unfolding take_of
    take_at_ceiling l = rw (ne_eqb st.next top_id u, le-ltb st.next st.ceiling l)

    -- next moves on by one
    pub take_moves : st.next < st.ceiling → (next : ℕ) → next ≡ st.next + 1
        → taken st.next (state_of st.length st.last next st.ceiling) ≡ take_of st
    unfolding take_of
    take_moves l next e = rw (e, ne_eqb st.next top_id u, lt-ltb st.next st.ceiling l)

-- ---- raising the ceiling

module _ (ceiling step : ℕ) where
  -- the test of the sum of a step that is 1 or more, by what is left above the ceiling
  pub step_sum : 1 ≤ step → step ≤ 2 ^ 32 → (room : ℕ) → room ≡ top_id - ceiling → ceiling ≤ top_id → ltb room step ≡ bad_step ceiling step
  unfolding bad_step
  step_sum some l room e most = rw (e, ne_eqb step 0 (λ z. omega arith), le-ltb (2 ^ 32) step l) (⊎_elim
      (λ a. rw (lt-ltb (top_id - ceiling) step (omega arith), lt-ltb top_id (ceiling + step) a))
      (λ a. rw (le-ltb (top_id - ceiling) step (omega arith), le-ltb top_id (ceiling + step) a))
      (side top_id (ceiling + step)))

  -- a step that is not refused can be added
  pub step_fits : bad_step ceiling step ≡ false → ceiling + step ≤ top_id
  unfolding bad_step
  step_fits e = ltb-false top_id (ceiling + step) (neither (eqb step 0 || ltb (2 ^ 32) step) _ e).1

module _ (st : State) (step : ℕ) where
  pub raise_refused_lem : bad_step st.ceiling step ≡ true → unraised 31 0 ≡ raise_of st step
  unfolding raise_of
  raise_refused_lem t = rw t

  pub raise_adds : bad_step st.ceiling step ≡ false → (ceiling : ℕ) → ceiling ≡ st.ceiling + step
      → raised (state_of st.length st.last st.next ceiling) ≡ raise_of st step
  unfolding raise_of
  raise_adds t ceiling e = rw (t, e)
