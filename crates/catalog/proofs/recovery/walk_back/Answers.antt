-- `walk_back` meets its contract: the walk from here, in what is left, ends as the walk from the last page. Assumes nothing.
use mathlib.Core.Path.{sym, ◌∙◌}
use native.Mathlib.Omega.{arith}
use lib.Seq.{length-take-le}
use Prim.Native.Nat.{◌-◌}
use Rattle.std.proofs.lemmas.Result.{err_from_is_err_and}
use Rattle.page.proofs.Marking.{is_start, is_later}
use Rattle.catalog.proofs.Laws.Recovery.Steps.{back_begins, goes_back, drops_cut, ends_fault, ends_short, ends_whole, ends_none, ends_fresh}
use Rattle.catalog.proofs.recovery.walk_back.Goals as goal

pub loop-p-init : goal.loop-p-init
loop-p-init c = back_begins _ _ _ _ (omega arith) (omega arith) c.requires

pub returns-in_err-mark : goal.returns-in_err-mark
returns-in_err-mark c =
    let e = err_from_is_err_and c.from_residual.result c.from_residual.ensures.1 in
    rw (e.1, e.2) (ends_fault _ _ _ _ c.loop-p.invariant (c.loop-p.p - 1) (omega arith) _ c.in_err-mark.ensures)

pub returns-in-Short : goal.returns-in-Short
returns-in-Short c =
    ends_short _ _ _ _ c.loop-p.invariant _ (omega arith)
    (is_start _ _ (rw c.in-Start.is at c.in_ok-mark.ensures))
    _ (sym (length-take-le _ _ (omega (arith, c.loop-p.invariant.most)))) (omega arith) _ (omega arith)
    (sym c.in-Short.ensures) _ (omega arith)

pub loop-p-preserved-in-Cut : goal.loop-p-preserved-in-Cut
loop-p-preserved-in-Cut c =
    drops_cut _ _ _ _ c.loop-p.invariant _ (omega arith)
    (is_start _ _ (rw c.in-Start.is at c.in_ok-mark.ensures))
    _ (sym (length-take-le _ _ (omega (arith, c.loop-p.invariant.most)))) (omega arith) _ (omega arith)
    _ (sym c.in-Cut.ensures) _ (omega arith)

pub returns-in-Whole : goal.returns-in-Whole
returns-in-Whole c =
    c.at_whole.ensures
    ∙ ends_whole _ _ _ _ c.loop-p.invariant _ (omega arith)
    (is_start _ _ (rw c.in-Start.is at c.in_ok-mark.ensures))
    _ (sym (length-take-le _ _ (omega (arith, c.loop-p.invariant.most)))) (omega arith) _ (omega arith)
    _ _ _ (sym c.in-Whole.ensures) _ (omega arith) _ (omega arith)

pub loop-p-preserved : goal.loop-p-preserved
loop-p-preserved c = goes_back _ _ _ _ c.loop-p.invariant _ (omega arith) (is_later _ _ (rw c.in-Later.is at c.in_ok-mark.ensures)) _ (omega arith)

pub returns-then-left-ne0 : goal.returns-then-left-ne0
returns-then-left-ne0 c = ends_none _ _ _ _ c.loop-p.invariant (omega arith) (λ z. omega arith)

pub returns : goal.returns
returns c = ends_fresh _ _ _ _ c.loop-p.invariant (omega arith) (omega arith) _ c.fresh.ensures _ (omega arith)
