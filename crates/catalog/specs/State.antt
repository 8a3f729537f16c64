-- Rules 1, "Pages, the store and the state", and Rules 5, "Take and raise": the state, and taking an id.
use Rattle.std.specs.Prelude.{ℕ, ◌+◌, ◌-◌, ◌^◌, max, eqb, ltb, Result, Ok, Err}
use Rattle.refusal.specs.Pick.{pick}
use Rattle.refusal.specs.Refusal.{number_of, value_of}
use Rattle.refusal.specs.declared.Refusal.{Refusal}
use Rattle.catalog.specs.declared.state.State.{State}
use Rattle.catalog.specs.declared.state.Taken.{Taken}

-- 1.9 "four 64-bit numbers: length; last written, an id; next, the id to hand out next; and the ceiling"
abbrev pub state_of : ℕ → ℕ → ℕ → ℕ → State
state_of n last next ceiling = record { length = n; last = last; next = next; ceiling = ceiling }

-- 1.9 "The fresh state is 0, 0, 1, 1"
abbrev pub fresh : State
fresh = state_of 0 0 1 1

-- 6.6 "the length that is left, the id, and for next and the ceiling the id + 1"
abbrev pub recovered_at : ℕ → ℕ → State
recovered_at n id = state_of n id (id + 1) (id + 1)

-- 6.8 "next becomes the larger of itself and the stored ceiling, and the ceiling is next"
abbrev pub resumed_above : ℕ → State → State
resumed_above stored st = state_of st.length st.last (max st.next stored) (max st.next stored)

-- 4.6 "next and the ceiling never move"
abbrev pub moved_to : State → ℕ → ℕ → State
moved_to st n last = state_of n last st.next st.ceiling

-- the id that is never handed out, and that recovery refuses
abbrev pub top_id : ℕ
top_id = 2 ^ 64 - 1

-- what taking an id answers: the id and the state after it, or a refusal
pub data Taking : Type 0 where
  taken : (id : ℕ) (state : State) → Taking
  refused : (number value : ℕ) → Taking

-- 5.1 "9 if next is 2^64-1, then 30 if next is not below the ceiling"; 5.2 "The id handed out is next, and next grows by 1"
unfoldable pub take_of : State → Taking
take_of st =
    pick (eqb st.next top_id) (refused 9 0) (
    pick (ltb st.next st.ceiling) (taken st.next (state_of st.length st.last (st.next + 1) st.ceiling))
    (refused 30 0))

-- the rules' answer for each case of the code's
abbrev pub paper_taken : Result Taken Refusal → Taking
paper_taken (Ok t) = taken t.id t.state
paper_taken (Err r) = refused (number_of r) (value_of r)
