-- `PushedNumbers::from` meets its contract. Assumes nothing.
-- The check finds this alone: it stands so that a wrong program is refused at the fact that is false.
use native.Mathlib.Omega.{arith}
use Rattle.awirbesh.proofs.Numbers.{reason_is, reason_by}
use Rattle.awirbesh.proofs.writing.PushedNumbersFromPushed.from.Goals as goal

pub returns : goal.returns
returns c =
    rw c.into.ensures
    (reason_is c.args.pushed _ (reason_by c.args.pushed.reason c.map_or.result
    (λ e. grind (arith, e, c.map_or.ensures)) (λ r e. grind (arith, e, c.map_or.ensures))))
