-- `check_pages` meets its contract: the pages that are left say what all say. Assumes nothing.
use mathlib.Core.Path.{refl, sym, ◌∙◌}
use native.Mathlib.Omega.{arith}
use Rattle.std.proofs.lemmas.Result.{err_from_is_err_and}
use Rattle.catalog.proofs.Laws.Check.Steps.{goes_further, end_excess, end_sound, none_left, fault_left, fewer_left}
use Rattle.catalog.proofs.checking.check_pages.Goals as goal

pub returns-in_err-passed : goal.returns-in_err-passed
returns-in_err-passed c =
    let e = err_from_is_err_and c.from_residual.result c.from_residual.ensures.1 in
    rw (e.1, e.2) (fault_left c.loop-p.invariant (omega arith) _ _ (sym c.in_err-passed.ensures))

pub loop-p-smaller : goal.loop-p-smaller
loop-p-smaller c = let f = goes_further _ _ _ _ _ (sym c.in_ok-passed.ensures) in omega arith

pub loop-p-preserved : goal.loop-p-preserved
loop-p-preserved c = fewer_left c.loop-p.invariant (omega arith) _ _ (sym c.in_ok-passed.ensures)

pub returns-then-not-is_multiple_of : goal.returns-then-not-is_multiple_of
returns-then-not-is_multiple_of c = end_excess _ _ (omega arith) (λ e. let z = c.if-not-is_multiple_of.ensures.1 e in cc) ∙ none_left c.loop-p.invariant (omega arith)

pub returns : goal.returns
returns c = end_sound _ (c.if-not-is_multiple_of.ensures.0 refl) ∙ none_left c.loop-p.invariant (omega arith)
