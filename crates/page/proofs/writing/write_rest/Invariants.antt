-- What the loop of `write_rest` keeps: one later page a turn. Assumes nothing.
use Rattle.page.proofs.Turning.{LaterLoop}
use Rattle.page.proofs.writing.write_rest.Given as goal

abbrev pub invariant-loop-j : goal.invariant-loop-j
invariant-loop-j l = LaterLoop l.initial.part l.bytes l.j-end l.part l.j
