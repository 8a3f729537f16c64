-- `Page::count` meets its contract: the length in whole pages. Assumes nothing.
-- The check finds this alone: it stands so that a wrong program is refused at the fact that is false.
use native.Mathlib.Omega.{arith}
use Rattle.page.proofs.Page.count.Goals as goal

pub returns : goal.returns
returns c = omega arith
