-- `see_start` meets its contract where it goes on. Assumes nothing.
-- The check finds this alone: it stands so that a wrong program is refused at the fact that is false.
use mathlib.Core.Path.{refl, sym}
use Rattle.page.proofs.Starting.{the_whole}
use Rattle.scanning.proofs.Laws.Forward.{step_out}
use Rattle.scanning.proofs.range.Range.see_start.Goals as goal

pub returns : goal.returns
returns c = step_out _ _ _ _ _ _ (the_whole _ _ c.in_ok-entry.ensures) (sym c.if-holds.ensures) _ refl
