-- `Range::holds` meets its contract. Assumes nothing.
-- The check finds this alone: it stands so that a wrong program is refused at the fact that is false.
use mathlib.Core.Path.{◌∙◌}
use Rattle.std.proofs.Common.{rules}
use Rattle.scanning.proofs.Laws.Range.{ends_hold}
use Rattle.scanning.proofs.range.Range.holds.Goals as goal

pub returns : goal.returns
returns c = c.contains.ensures _ ∙ ends_hold c.args.self c.args.id _ _ (search rules) (search rules)
