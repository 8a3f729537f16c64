-- `LookNumbers::from` meets its contract. Assumes nothing.
-- The check finds this alone: it stands so that a wrong program is refused at the fact that is false.
use mathlib.Core.Path.{◌≡◌}
use native.Mathlib.Omega.{arith}
use Rattle.catalog.specs.declared.searching.Look.TheVariants.{Found}
use Rattle.awirbesh.proofs.Numbers.{found_is}
use Rattle.awirbesh.proofs.reading.LookNumbersFromResultLookRefusal.from.Goals as goal

pub returns-in-Ok-Found : goal.returns-in-Ok-Found
returns-in-Ok-Found c =
    let h : c.in-Ok-Found.field-0 ≡ Found c.in-Ok-Found.position c.in-Ok-Found.length = rw c.in-Ok-Found.is at c.in-Ok-Found.field-0-is in
    rw (c.in-Ok-Found.is, h) (found_is _ _ _ _ _ (omega arith) (omega arith) (omega arith))
