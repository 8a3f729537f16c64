-- Rules 3, "Refusals": the table.
use Rattle.std.specs.Prelude.{ℕ}
use Rattle.refusal.specs.declared.Refusal.{Refusal}
use Rattle.refusal.specs.declared.Refusal.TheVariants.{BadState, OutOfOrder, TooLarge, NoRoom, BadMark, ShortEntry, CutEntry, NoEntries, IdsUsedUp, BufferSmall, BelowStart, OutsideWindow, BadBatch, Overlap, NotAscending, ValueTooLarge, CeilingReached, BadRaise}

-- the column "no."
abbrev pub number_of : Refusal → ℕ
number_of BadState = 1
number_of OutOfOrder = 2
number_of TooLarge = 3
number_of NoRoom = 4
number_of (BadMark page) = 5
number_of (ShortEntry page) = 6
number_of (CutEntry page) = 7
number_of (NoEntries page) = 8
number_of IdsUsedUp = 9
number_of (BufferSmall needed) = 10
number_of BelowStart = 11
number_of OutsideWindow = 12
number_of BadBatch = 13
number_of (Overlap page) = 14
number_of (NotAscending page) = 15
number_of ValueTooLarge = 16
number_of CeilingReached = 30
number_of BadRaise = 31

-- the column "value": a page for 5 to 8, 14 and 15, for 10 the "length needed", and nothing for the others, which is 0 here
abbrev pub value_of : Refusal → ℕ
value_of BadState = 0
value_of OutOfOrder = 0
value_of TooLarge = 0
value_of NoRoom = 0
value_of (BadMark page) = page
value_of (ShortEntry page) = page
value_of (CutEntry page) = page
value_of (NoEntries page) = page
value_of IdsUsedUp = 0
value_of (BufferSmall needed) = needed
value_of BelowStart = 0
value_of OutsideWindow = 0
value_of BadBatch = 0
value_of (Overlap page) = page
value_of (NotAscending page) = page
value_of ValueTooLarge = 0
value_of CeilingReached = 0
value_of BadRaise = 0
