-- Which ids std's `contains` finds between two ends. Assumes nothing.
use Prim.Native.Nat.{ℕ}
use mathlib.Core.Path.{◌≡◌}
use Rattle.std.proofs.Common.{rules}
use Rattle.std.specs.Range.Bound.{bounds_contain}
use Rattle.std.specs.declared.ops.Bound.{Bound}
use Rattle.scanning.specs.Range.{holds_of}
use Rattle.scanning.specs.declared.range.Range.{Range}
use Rattle.std.specs.contracts.prelude.U64PartialOrd.TheImpl.{partial_cmp-value}

-- the range's own ends
pub ends_hold : (range : Range) (id : ℕ) (lower upper : Bound ℕ) → lower ≡ range.lower → upper ≡ range.upper
    → bounds_contain partial_cmp-value.it lower upper id ≡ holds_of range id
unfolding holds_of
ends_hold range id lower upper a b = search rules
