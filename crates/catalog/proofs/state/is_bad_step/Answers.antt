-- `is_bad_step` meets its contract. Assumes nothing.
-- The check finds this alone: it stands so that a wrong program is refused at the fact that is false.
use native.Mathlib.Omega.{arith}
use Rattle.catalog.proofs.Laws.States.{step_sum}
use Rattle.catalog.proofs.state.is_bad_step.Goals as goal

pub returns-else-step-gt-MOST_RAISED : goal.returns-else-step-gt-MOST_RAISED
returns-else-step-gt-MOST_RAISED c = step_sum c.args.ceiling c.args.step (omega arith) (omega arith) _ (omega arith) (omega arith)
