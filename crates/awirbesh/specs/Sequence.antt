-- The numbers that stand for an id sequence, and for the answers of Rules 10, "Id sequence".
use Rattle.std.specs.Prelude.{ℕ, Bool}
use Rattle.refusal.specs.Pick.{pick}
use Rattle.sequence.specs.Sequence.{Noting, noted, refused}
use Rattle.sequence.specs.declared.IdSequence.{IdSequence}
use Rattle.awirbesh.specs.declared.sequences.SequenceNumbers.{SequenceNumbers}
use Rattle.awirbesh.specs.declared.sequences.NotedNumbers.{NotedNumbers}

abbrev pub sequence_from : SequenceNumbers → IdSequence
sequence_from s = record { start = s.start; after = s.after }

abbrev pub sequence_numbers : IdSequence → SequenceNumbers
sequence_numbers s = record { start = s.start; after = s.after }

-- the sequence after the note; a refusal leaves it as given
abbrev pub noted_numbers : SequenceNumbers → Noting → NotedNumbers
noted_numbers given (noted start after) = record { number = 0; sequence = record { start = start; after = after } }
noted_numbers given (refused number value) = record { number = number; sequence = given }

-- 10.5 "yes"
abbrev pub yes_number : Bool → ℕ
yes_number answer = pick answer 1 0
