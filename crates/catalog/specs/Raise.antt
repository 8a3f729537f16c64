-- Rules 5, "Take and raise": raising the ceiling.
use Rattle.std.specs.Prelude.{ℕ, ◌+◌, ◌^◌, Bool, ◌||◌, eqb, ltb, Result, Ok, Err}
use Rattle.refusal.specs.Pick.{pick}
use Rattle.refusal.specs.Refusal.{number_of, value_of}
use Rattle.refusal.specs.declared.Refusal.{Refusal}
use Rattle.catalog.specs.State.{state_of, top_id}
use Rattle.catalog.specs.declared.state.State.{State}

-- what raising the ceiling answers: the state with the new one, or a refusal
pub data Raising : Type 0 where
  raised : (state : State) → Raising
  refused : (number value : ℕ) → Raising

-- 5.3 "31 if the step is 0 or above 2^32, or the ceiling and the step add up to more than 2^64-1"
unfoldable pub bad_step : ℕ → ℕ → Bool
bad_step ceiling step = eqb step 0 || ltb (2 ^ 32) step || ltb top_id (ceiling + step)

-- 5.3 "31 if the step is"; 5.4 "the state with the step added to its ceiling"
unfoldable pub raise_of : State → ℕ → Raising
raise_of st step = pick (bad_step st.ceiling step) (refused 31 0) (raised (state_of st.length st.last st.next (st.ceiling + step)))

-- the rules' answer for each case of the code's
abbrev pub paper_raised : Result State Refusal → Raising
paper_raised (Ok state) = raised state
paper_raised (Err r) = refused (number_of r) (value_of r)
