-- `Page::pages_for_data` meets its contract: the id counts among the payload. Assumes nothing.
-- The check finds this alone: it stands so that a wrong program is refused at the fact that is false.
use mathlib.Core.Path.{◌∙◌}
use Prim.Native.Nat.{◌+◌}
use native.Mathlib.Omega.{arith}
use Rattle.page.specs.Size.{id_size}
use Rattle.page.proofs.Counting.{pages_linear}
use Rattle.page.proofs.Page.pages_for_data.Goals as goal

pub returns : goal.returns
returns c = c.pages_for.ensures ∙ pages_linear _ ∙ omega (arith, pages_linear (id_size + c.args.n))
