-- What stands in an answer's numbers, each with the equation that it has to meet. Assumes nothing.
use Prim.Native.Nat.{ℕ}
use mathlib.Core.Path.{◌≡◌, refl}
use Rattle.std.specs.Prelude.{Option, None, Some}
use Rattle.refusal.specs.Refusal.{number_of}
use Rattle.refusal.specs.declared.Refusal.{Refusal}
use Rattle.catalog.specs.Lookup.{found}
use Rattle.scanning.specs.Step.{refused as unstepped}
use Rattle.pushing.specs.Push.{paper_reason, paper_pushed}
use Rattle.pushing.specs.declared.Pushed.{Pushed}
use Rattle.awirbesh.specs.State.{state_numbers}
use Rattle.awirbesh.specs.Read.{look_numbers, stepped_numbers}
use Rattle.awirbesh.specs.Push.{reason_number, pushed_numbers}
use Rattle.awirbesh.specs.declared.state.StateNumbers.{StateNumbers}
use Rattle.awirbesh.specs.declared.state.TakenNumbers.{TakenNumbers}
use Rattle.awirbesh.specs.declared.state.RaisedNumbers.{RaisedNumbers}
use Rattle.awirbesh.specs.declared.reading.LookNumbers.{LookNumbers}
use Rattle.awirbesh.specs.declared.reading.SteppedNumbers.{SteppedNumbers}
use Rattle.awirbesh.specs.declared.writing.PushedNumbers.{PushedNumbers}

-- found is 1 for what was found
abbrev looked : ℕ → ℕ → ℕ → ℕ → ℕ → LookNumbers
looked number value flag position len = record { number = number; value = value; found = flag; position = position; length = len }

pub found_is : (number value flag position len : ℕ) → number ≡ 0 → value ≡ 0 → flag ≡ 1
    → looked number value flag position len ≡ look_numbers (found position len)
found_is number value flag position len a b e = rw (a, b, e)

-- a refused step has the cursor given
abbrev stepping : ℕ → ℕ → ℕ → ℕ → ℕ → ℕ → SteppedNumbers
stepping number value kind id len cursor = record { number = number; value = value; kind = kind; id = id; length = len; cursor = cursor }

pub cursor_is : (given number value kind id len cursor : ℕ) → kind ≡ 0 → id ≡ 0 → len ≡ 0 → cursor ≡ given
    → stepping number value kind id len cursor ≡ stepped_numbers given (unstepped number value)
cursor_is given number value kind id len cursor a b c e = rw (a, b, c, e)

-- a push has the number of its reason
abbrev pushed_by : ℕ → ℕ → StateNumbers → PushedNumbers
pushed_by number written st = record { number = number; written = written; state = st }

pub reason_is : (pushed : Pushed) (number : ℕ) → number ≡ reason_number (paper_reason pushed.reason)
    → pushed_by number pushed.written (state_numbers pushed.state) ≡ pushed_numbers (paper_pushed pushed)
reason_is pushed number e = rw e

-- and that is the refusal's, or 0 for none
pub reason_by : (reason : Option Refusal) (number : ℕ) → (reason ≡ None → number ≡ 0) → ((r : Refusal) → reason ≡ Some r → number ≡ number_of r)
    → number ≡ reason_number (paper_reason reason)
reason_by None number e f = e refl
reason_by (Some r) number e f = f r refl

-- a refused take has the state given, and so has a refused raising
abbrev numbers_of : ℕ → ℕ → ℕ → ℕ → StateNumbers
numbers_of n last next ceiling = record { length = n; last = last; next = next; ceiling = ceiling }

abbrev take_refused : ℕ → StateNumbers → TakenNumbers
take_refused number st = record { number = number; id = 0; state = st }

abbrev raise_refused : ℕ → StateNumbers → RaisedNumbers
raise_refused number st = record { number = number; state = st }

by_numbers : (n n' last last' next next' ceiling ceiling' : ℕ) → n ≡ n' → last ≡ last' → next ≡ next' → ceiling ≡ ceiling'
    → numbers_of n last next ceiling ≡ numbers_of n' last' next' ceiling'
by_numbers n n' last last' next next' ceiling ceiling' a b c d = rw (a, b, c, d)

module _ (given st : StateNumbers) (number : ℕ)
    (a : st.length ≡ given.length) (b : st.last ≡ given.last) (c : st.next ≡ given.next) (d : st.ceiling ≡ given.ceiling) where
  same : st ≡ given
  same = by_numbers _ _ _ _ _ _ _ _ a b c d

  pub state_is : take_refused number st ≡ take_refused number given
  state_is = rw same

  pub raise_state_is : raise_refused number st ≡ raise_refused number given
  raise_state_is = rw same
