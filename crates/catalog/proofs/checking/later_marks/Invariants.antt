-- What the loop of `later_marks` keeps: the pages from here on say what those from the first on say. Assumes nothing.
use mathlib.Core.Path.{◌≡◌}
use Prim.Native.Nat.{◌-◌}
use Rattle.catalog.specs.Check.{later_marks}
use Rattle.catalog.proofs.checking.later_marks.Given as goal

abbrev pub invariant-loop-p : goal.invariant-loop-p
invariant-loop-p l = later_marks l.log l.id (l.after - l.p) l.p ≡ later_marks l.log l.id (l.after - l.from) l.from
