-- What the loop of `sequence::IdSequence::truncate` keeps: what is left to do gives what the whole gives. Assumes nothing.
use Rattle.std.proofs.Common.{◌-◌, ◌≡◌}
use Rattle.sequence.proofs.Rounds.{Going}
use Rattle.sequence.proofs.IdSequence.truncate.Given as goal

abbrev pub invariant-loop-ids : goal.invariant-loop-ids
invariant-loop-ids l = (l.ids.after ≡ l.fn.self.after) × (Going l.fn.self.after l.fn.self.start l.fn.words l.ids.start l.words)

abbrev pub decreases-loop-ids : goal.decreases-loop-ids
decreases-loop-ids l = l.ids.after - l.ids.start
