-- `search` meets its contract: each way through the loops is one law of `Windows`. Assumes nothing.
use Prim.Native.Nat.{ℕ, ◌+◌}
use mathlib.Core.Path.{refl, ap}
use native.Mathlib.Omega.{arith}
use Rattle.catalog.specs.Lookup.{window}
use Rattle.catalog.proofs.Laws.Lookup.Rounds.{guess_inside}
use Rattle.catalog.proofs.Laws.Lookup.Windows as windows
use Rattle.catalog.proofs.searching.search.Goals as goal

pub window-init : goal.window-init
window-init c = windows.opened _ _ _ _ c.count.ensures (omega arith) (omega arith)

pub overflow_add-guess : goal.overflow_add-guess
overflow_add-guess c =
    let v = c.window.w in
    let i = guess_inside c.args.id (window v.lo v.hi v.a v.b) (omega arith) in
    omega (arith, i.high)

pub overflow_add-past : goal.overflow_add-past
overflow_add-past c =
    let v = c.window.w in
    let i = guess_inside c.args.id (window v.lo v.hi v.a v.b) (omega arith) in
    omega (arith, i.high)

pub loop-s-init : goal.loop-s-init
loop-s-init c = (refl, refl, windows.guessed c.window.invariant (omega arith) _ _ (ap (λ (o : ℕ). c.window.w.lo + o) c.offset.ensures) (omega arith))

pub window-preserved-in-Ok-Below : goal.window-preserved-in-Ok-Below
window-preserved-in-Ok-Below c = windows.page_below c.loop-s.invariant.2 (omega arith) _ _ _ (rw c.in-Ok-Below.field-0-is at c.in-Ok-Below.ensures) (omega arith)

pub window-preserved-in-Ok-Above : goal.window-preserved-in-Ok-Above
window-preserved-in-Ok-Above c = windows.page_above c.loop-s.invariant.2 (omega arith) _ _ (rw c.in-Ok-Above.field-0-is at c.in-Ok-Above.ensures) (omega arith)

pub loop-s-preserved : goal.loop-s-preserved
loop-s-preserved c =
    (c.loop-s.invariant.0, c.loop-s.invariant.1, windows.further_back c.loop-s.invariant.2 (omega arith) (rw c.in-Ok-Back.field-0-is at c.in-Ok-Back.ensures))

pub window-preserved : goal.window-preserved
window-preserved c = windows.none_back c.loop-s.invariant.2 (omega arith) _ (omega arith)

pub returns-then-w : goal.returns-then-w
returns-then-w c = windows.window_empty c.window.invariant (omega arith)

pub returns-in-Ok-Found : goal.returns-in-Ok-Found
returns-in-Ok-Found c = windows.page_ends c.loop-s.invariant.2 (omega arith) _ (rw c.in-Ok-Found.field-0-is at c.in-Ok-Found.ensures)

pub returns-in-Err : goal.returns-in-Err
returns-in-Err c = windows.page_ends c.loop-s.invariant.2 (omega arith) _ c.in-Err.ensures
