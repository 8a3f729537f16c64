-- `TakenNumbers::new` meets its contract. Assumes nothing.
-- The check finds this alone: it stands so that a wrong program is refused at the fact that is false.
use native.Mathlib.Omega.{arith}
use Rattle.awirbesh.proofs.Numbers.{state_is}
use Rattle.awirbesh.proofs.state.TakenNumbers.new.Goals as goal

pub returns-in-Err : goal.returns-in-Err
returns-in-Err c = rw (c.in-Err.is, c.number.ensures) (state_is _ _ _ (omega arith) (omega arith) (omega arith) (omega arith))
