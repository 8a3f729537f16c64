-- What the loops of `search` keep: what is left of the window says what the whole log says. Assumes nothing.
use Prim.Native.Nat.{◌-◌}
use mathlib.Core.Path.{◌≡◌}
use Rattle.catalog.specs.Lookup.{window}
use Rattle.catalog.proofs.Laws.Lookup.Windows.{WindowLoop, BackLoop}
use Rattle.catalog.proofs.searching.search.Given as goal

abbrev pub invariant-window : goal.invariant-window
invariant-window l = WindowLoop l.log l.next l.id (window l.w.lo l.w.hi l.w.a l.w.b)

abbrev pub decreases-window : goal.decreases-window
decreases-window l = l.w.hi - l.w.lo

abbrev pub invariant-loop-s : goal.invariant-loop-s
invariant-loop-s l = (l.w.lo ≡ l.initial.w.lo) × (l.w.hi ≡ l.initial.w.hi) × BackLoop l.log l.next l.id (window l.w.lo l.w.hi l.w.a l.w.b) l.guess l.s
