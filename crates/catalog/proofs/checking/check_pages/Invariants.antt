-- What the loop of `check_pages` keeps: the pages that are left say what all say. Assumes nothing.
use Prim.Native.Nat.{◌-◌}
use Rattle.catalog.proofs.Laws.Check.Steps.{PagesLeft}
use Rattle.catalog.proofs.checking.check_pages.Given as goal

abbrev pub invariant-loop-p : goal.invariant-loop-p
invariant-loop-p l = PagesLeft l.log l.p l.last

abbrev pub decreases-loop-p : goal.decreases-loop-p
decreases-loop-p l = l.count - l.p
