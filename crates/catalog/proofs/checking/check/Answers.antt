-- `check` meets its contract: what is checked is the first bytes of the store. Assumes nothing.
-- The check finds this alone: it stands so that a wrong program is refused at the fact that is false.
use mathlib.Core.Path.{sym, ◌∙◌}
use native.Mathlib.Omega.{arith}
use Rattle.catalog.proofs.Laws.Check.Steps.{check_part}
use Rattle.catalog.proofs.Laws.Recovery.Steps.{part_length}
use Rattle.catalog.proofs.checking.check.Goals as goal

pub returns : goal.returns
returns c =
    let inside = sym c.if-is_too_long.ensures in
    c.check_pages.ensures ∙ check_part _ _ inside _ (part_length _ _ inside _ (λ f. omega arith)) (omega arith)
