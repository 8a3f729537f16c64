-- What the loop of `forward` keeps: the rounds from here end as those from the first page. Assumes nothing.
use Prim.Native.Nat.{◌-◌}
use Rattle.scanning.proofs.Laws.Forward.{ForwardLoop}
use Rattle.scanning.proofs.stepping.Walk.forward.Given as goal

abbrev pub invariant-loop-p : goal.invariant-loop-p
invariant-loop-p l = ForwardLoop l.self.log.now l.self.range l.fn.from l.p

abbrev pub decreases-loop-p : goal.decreases-loop-p
decreases-loop-p l = l.pages - l.p
