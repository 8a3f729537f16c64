-- `forward` meets its contract: what the loop begins with, and what it ends with. The laws of its turns are named at the function. Assumes nothing.
use native.Mathlib.Omega.{arith}
use Rattle.scanning.proofs.Laws.Forward.{forward_begins, forward_over}
use Rattle.scanning.proofs.stepping.Walk.forward.Goals as goal

pub loop-p-init : goal.loop-p-init
loop-p-init c = forward_begins _ _ _ _ (omega arith)

pub returns : goal.returns
returns c = forward_over c.loop-p.invariant (omega arith)
