-- The numbers that stand for a range, and for the answers of Rules 8, "Lookup", and Rules 9, "Scan".
use Rattle.std.specs.Prelude.{ℕ, eqb}
use Rattle.refusal.specs.Pick.{pick}
use Rattle.catalog.specs.Lookup.{Looking, found, absent, refused}
use Rattle.scanning.specs.Scan.{Beginning, at, refused as unstarted}
use Rattle.scanning.specs.Step.{Stepping, entry, end, refused as unstepped}
use Rattle.std.specs.declared.ops.Bound.{Bound}
use Rattle.std.specs.declared.ops.Bound.TheVariants.{Unbounded, Included, Excluded}
use Rattle.scanning.specs.declared.Range.{Range}
use Rattle.awirbesh.specs.declared.reading.EndNumbers.{EndNumbers}
use Rattle.awirbesh.specs.declared.reading.RangeNumbers.{RangeNumbers}
use Rattle.awirbesh.specs.declared.reading.LookNumbers.{LookNumbers}
use Rattle.awirbesh.specs.declared.reading.StartedNumbers.{StartedNumbers}
use Rattle.awirbesh.specs.declared.reading.SteppedNumbers.{SteppedNumbers}

-- 9.1 "is included, excluded or open": kind 1, 2, any other
abbrev pub end_from : EndNumbers → Bound ℕ
end_from e = pick (eqb e.kind 1) (Included e.id) (pick (eqb e.kind 2) (Excluded e.id) Unbounded)

abbrev pub range_from : RangeNumbers → Range
range_from r = record { lower = end_from r.lower; upper = end_from r.upper }

-- found is 1 for found, 0 for absent
abbrev pub look_numbers : Looking → LookNumbers
look_numbers (found position len) = record { number = 0; value = 0; found = 1; position = position; length = len }
look_numbers (absent position) = record { number = 0; value = 0; found = 0; position = position; length = 0 }
look_numbers (refused number value) = record { number = number; value = value; found = 0; position = 0; length = 0 }

-- 9.2: the cursor for the first step
abbrev pub started_numbers : Beginning → StartedNumbers
started_numbers (at cursor) = record { number = 0; value = 0; cursor = cursor }
started_numbers (unstarted number value) = record { number = number; value = value; cursor = 0 }

-- kind is 1 for an entry, 0 for the end; a refusal leaves the cursor as given
abbrev pub stepped_numbers : ℕ → Stepping → SteppedNumbers
stepped_numbers given (entry id len cursor) =
    record { number = 0; value = 0; kind = 1; id = id; length = len; cursor = cursor }
stepped_numbers given (end cursor) =
    record { number = 0; value = 0; kind = 0; id = 0; length = 0; cursor = cursor }
stepped_numbers given (unstepped number value) =
    record { number = number; value = value; kind = 0; id = 0; length = 0; cursor = given }
