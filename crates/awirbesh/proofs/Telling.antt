-- No refusal has the number 0, so that a caller can tell by `number` alone whether a call was refused. Assumes nothing.
use Prim.Native.Nat.{◌≤◌}
use native.Mathlib.Omega.{arith}
use Rattle.refusal.specs.Refusal.{number_of}
use Rattle.refusal.specs.declared.Refusal.{Refusal}
use Rattle.refusal.specs.declared.Refusal.TheVariants.{BadState, OutOfOrder, TooLarge, NoRoom, BadMark, ShortEntry, CutEntry, NoEntries, IdsUsedUp}
use Rattle.refusal.specs.declared.Refusal.TheVariants.{BufferSmall, BelowStart, OutsideWindow, BadBatch, Overlap, NotAscending, ValueTooLarge, CeilingReached, BadRaise}

pub number_tells : (r : Refusal) → 1 ≤ number_of r
number_tells BadState = omega arith
number_tells OutOfOrder = omega arith
number_tells TooLarge = omega arith
number_tells NoRoom = omega arith
number_tells (BadMark page) = omega arith
number_tells (ShortEntry page) = omega arith
number_tells (CutEntry page) = omega arith
number_tells (NoEntries page) = omega arith
number_tells IdsUsedUp = omega arith
number_tells (BufferSmall needed) = omega arith
number_tells BelowStart = omega arith
number_tells OutsideWindow = omega arith
number_tells BadBatch = omega arith
number_tells (Overlap page) = omega arith
number_tells (NotAscending page) = omega arith
number_tells ValueTooLarge = omega arith
number_tells CeilingReached = omega arith
number_tells BadRaise = omega arith
