-- `check_start` meets its contract. Assumes nothing.
use mathlib.Core.Path.{◌≡◌, ◌∙◌}
use native.Mathlib.Omega.{arith}
use Rattle.page.specs.Entry.{whole, entry_at}
use Rattle.page.proofs.Starting.{is_whole, the_whole}
use Rattle.catalog.proofs.Laws.Check.Steps.{start_later, past_start}
use Rattle.catalog.proofs.checking.check_start.Goals as goal
use Rattle.catalog.proofs.checking.check_start.Goals.{In_ok-whole}

starts : (c : In_ok-whole) → entry_at c.args.page.log.now c.args.page.number ≡ whole c.in_ok-whole.whole.id c.in_ok-whole.whole.length c.in_ok-whole.whole.after
starts c = the_whole _ _ c.in_ok-whole.ensures

pub later_marks-requires : goal.later_marks-requires
later_marks-requires c = let w = is_whole (starts (goal.at.later_marks-requires c).In_ok-whole) in (omega (arith, past_start w), w.within)

-- The check finds this alone: it stands so that a wrong program is refused at the fact that is false.
pub returns : goal.returns
returns c = c.later_marks.ensures ∙ start_later _ _ _ _ _ _ _ (starts (goal.at.returns c).In_ok-whole) (omega arith)
