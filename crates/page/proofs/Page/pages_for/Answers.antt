-- `Page::pages_for` meets its contract: the rule in one division. Assumes nothing.
-- The check finds this alone: it stands so that a wrong program is refused at the fact that is false.
use native.Mathlib.Omega.{arith}
use Rattle.page.proofs.Counting.{pages_linear}
use Rattle.page.proofs.Page.pages_for.Goals as goal

pub returns : goal.returns
returns c = omega (arith, pages_linear c.args.n)
