-- `write_rest` meets its contract: one later page a turn. Assumes nothing.
use mathlib.Core.Path.{refl}
use native.Mathlib.Omega.{arith}
use Rattle.page.proofs.Turning.{later_begins, later_turns}
use Rattle.page.proofs.writing.write_rest.Goals as goal

pub loop-j-init : goal.loop-j-init
loop-j-init c = later_begins _ _ _ (omega arith) c.requires

pub loop-j-preserved : goal.loop-j-preserved
loop-j-preserved c =
    later_turns _ _ _ _ _ c.loop-j.invariant _ _ _ c.loop-j-test.true (omega arith) c.write_page.ensures refl
