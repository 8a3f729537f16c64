-- Rules 9, "Scan": which ids are in a range.
use Rattle.std.specs.Prelude.{ℕ, Bool, true, ◌&&◌, ltb, leb}
use Rattle.std.specs.declared.ops.Bound.{Bound}
use Rattle.std.specs.declared.ops.Bound.TheVariants.{Unbounded, Included, Excluded}
use Rattle.scanning.specs.declared.range.Range.{Range}

-- 9.1 "included, excluded or open; an open end shuts no id out": the id is on the inner side of the lower end
abbrev pub above_lower : Bound ℕ → ℕ → Bool
above_lower Unbounded id = true
above_lower (Included a) id = leb a id
above_lower (Excluded a) id = ltb a id

-- and on the inner side of the upper end
abbrev pub below_upper : Bound ℕ → ℕ → Bool
below_upper Unbounded id = true
below_upper (Included b) id = leb id b
below_upper (Excluded b) id = ltb id b

-- 9.4 "in the range"
unfoldable pub holds_of : Range → ℕ → Bool
holds_of range id = above_lower range.lower id && below_upper range.upper id
