-- The answers so far are as many as the ids noted.
use Rattle.std.proofs.Common.{◌+◌, ◌≤◌}
use Rattle.worked.proofs.ids.tally_down.Given as goal

abbrev pub invariant-loop-left : goal.invariant-loop-left
invariant-loop-left l = l.left + (l.t.no + (l.t.yes + l.t.refused)) ≤ l.count
