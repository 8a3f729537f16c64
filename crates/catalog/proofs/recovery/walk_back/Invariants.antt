-- What the loop of `walk_back` keeps: the walk from here, in what is left, ends as the walk from the last page. Assumes nothing.
use Rattle.catalog.proofs.Laws.Recovery.Steps.{BackLoop}
use Rattle.catalog.proofs.recovery.walk_back.Given as goal

abbrev pub invariant-loop-p : goal.invariant-loop-p
invariant-loop-p l = BackLoop l.log l.excess l.left l.p
