-- `place` meets its contract where the id is absent. Assumes nothing.
-- The check finds this alone: it stands so that a wrong program is refused at the fact that is false.
use native.Mathlib.Omega.{arith}
use Rattle.scanning.proofs.Laws.Start.{place_absent}
use Rattle.scanning.proofs.starting.place.Goals as goal

pub returns-in-Absent : goal.returns-in-Absent
returns-in-Absent c = place_absent _ _ _ _ _ (omega arith) (rw c.in-Absent.is at c.in_ok-position.ensures)
