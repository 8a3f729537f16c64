-- What the contracts of private functions cite beside the rules' own definitions: the rules' answer for each case of what they return.
use Rattle.std.specs.Prelude.{ℕ, List, Option, Some, None, Result, Ok, Err, length}
use Rattle.std.specs.declared.ops.ControlFlow.{ControlFlow}
use Rattle.std.specs.declared.ops.ControlFlow.TheVariants.{Break, Continue}
use Rattle.refusal.specs.Refusal.{number_of, value_of}
use Rattle.refusal.specs.declared.Refusal.{Refusal}
use Rattle.catalog.specs.Round.{Round, stop, again}
use Rattle.scanning.specs.Step.{Reaching, reached, ended, faulty}
use Rattle.scanning.specs.declared.stepping.Met.{Met}

-- an entry that was met, or none before the log's end
abbrev pub paper_met : List ℕ → Result (Option Met) Refusal → Reaching
paper_met log (Ok (Some m)) = reached m.page m.entry.id m.entry.length m.entry.after
paper_met log (Ok None) = ended (length log)
paper_met log (Err r) = faulty (number_of r) (value_of r)

-- what one page says: a stop at its entry or at a fault, or on from a later page
abbrev pub paper_seen : Result (ControlFlow Met ℕ) Refusal → Round Reaching ℕ
paper_seen (Ok (Break m)) = stop (reached m.page m.entry.id m.entry.length m.entry.after)
paper_seen (Ok (Continue page)) = again page
paper_seen (Err r) = stop (faulty (number_of r) (value_of r))
