-- What the contracts of private functions cite beside the rules' own definitions: the rules' answer for a turn's result, and a batch's entries in turn.
use Rattle.std.specs.Prelude.{ℕ, List, length, Result, Ok, Err}
use Rattle.refusal.specs.Refusal.{number_of, value_of}
use Rattle.refusal.specs.declared.Refusal.{Refusal}
use Rattle.catalog.specs.declared.state.State.{State}
use Rattle.catalog.specs.Round.{Round, stop, again}
use Rattle.pushing.specs.Push.{refused, Point, point, Done, done, entries_from}
use Rattle.pushing.specs.declared.batch.Batch.{Batch}

-- after j entries written, from a state, with the store that the turn leaves
abbrev pub paper_turn : ℕ → State → List ℕ → Result State Refusal → Round Done Point
paper_turn j st store (Ok after) = again (point after store)
paper_turn j st store (Err r) = stop (done (refused (number_of r) (value_of r)) j (point st store))

-- all entries of a batch
abbrev pub entries_of : Batch → Point → Done
entries_of b p = entries_from b.ids.now b.ends.now b.bytes.now (length b.ids.now) 0 p
