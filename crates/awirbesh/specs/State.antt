-- The numbers that stand for a state, and for the answers of Rules 5, "Take and raise".
-- Here and in each module of these specs: number is the refusal's, 0 for none; value is what it names; after a refusal every other number is 0, or what a comment there says.
use Rattle.catalog.specs.State.{Taking, taken, refused, state_of}
use Rattle.catalog.specs.Raise.{Raising, raised, refused as unraised}
use Rattle.catalog.specs.declared.state.State.{State}
use Rattle.awirbesh.specs.declared.state.StateNumbers.{StateNumbers}
use Rattle.awirbesh.specs.declared.state.TakenNumbers.{TakenNumbers}
use Rattle.awirbesh.specs.declared.state.RaisedNumbers.{RaisedNumbers}

-- 1.9 "four 64-bit numbers"
abbrev pub state_from : StateNumbers → State
state_from s = state_of s.length s.last s.next s.ceiling

abbrev pub state_numbers : State → StateNumbers
state_numbers st = record { length = st.length; last = st.last; next = st.next; ceiling = st.ceiling }

-- the id and the state after it; 3.2 "a refusal leaves the state"
abbrev pub taken_numbers : StateNumbers → Taking → TakenNumbers
taken_numbers given (taken id st) = record { number = 0; id = id; state = state_numbers st }
taken_numbers given (refused number value) = record { number = number; id = 0; state = given }

-- the state with the new ceiling; 3.2 "a refusal leaves the state"
abbrev pub raised_numbers : StateNumbers → Raising → RaisedNumbers
raised_numbers given (raised st) = record { number = 0; state = state_numbers st }
raised_numbers given (unraised number value) = record { number = number; state = given }
