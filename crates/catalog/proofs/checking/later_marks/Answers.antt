-- `later_marks` meets its contract: the pages from here on say what those from the first on say. Assumes nothing.
use mathlib.Core.Path.{sym, ◌∙◌}
use native.Mathlib.Omega.{arith}
use Rattle.std.proofs.lemmas.Result.{err_from_is_err_and}
use Rattle.page.proofs.Marking.{is_start, is_later}
use Rattle.catalog.proofs.Laws.Check.Steps.{later_from, later_end, later_start, later_fault, later_on}
use Rattle.catalog.proofs.checking.later_marks.Goals as goal

-- The check finds this alone: it stands so that a wrong program is refused at the fact that is false.
pub loop-p-init : goal.loop-p-init
loop-p-init c = later_from _ _ _ _ _ (omega arith)

pub returns-in_err-mark : goal.returns-in_err-mark
returns-in_err-mark c =
    let e = err_from_is_err_and c.from_residual.result c.from_residual.ensures.1 in
    rw (e.1, e.2) (later_fault _ _ _ _ _ (omega arith) c.in_err-mark.ensures ∙ c.loop-p.invariant)

pub returns-in-Start : goal.returns-in-Start
returns-in-Start c = sym (later_start _ _ _ _ (omega arith) (is_start _ _ (rw c.in-Start.is at c.in_ok-mark.ensures))) ∙ c.loop-p.invariant

pub loop-p-preserved : goal.loop-p-preserved
loop-p-preserved c = sym (later_on _ _ _ _ _ (omega arith) (is_later _ _ (rw c.in-Later.is at c.in_ok-mark.ensures))) ∙ c.loop-p.invariant

pub returns : goal.returns
returns c = sym (later_end _ _ _ _ (omega arith)) ∙ c.loop-p.invariant
