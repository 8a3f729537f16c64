-- The number and the value tell a refusal from every other; and where paper tells answers apart, a promise has one. Assumes nothing.
use mathlib.Core.Path.{◌≡◌, refl, sym, ◌∙◌}
use Prim.Native.Nat.{ℕ}
use lib.Dec.{eqb}
use Rattle.refusal.specs.Pick.{pick}
use Rattle.refusal.specs.Refusal.{number_of, value_of}
use Rattle.refusal.specs.declared.Refusal.{Refusal}
use Rattle.refusal.specs.declared.Refusal.TheVariants.{BadState, OutOfOrder, TooLarge, NoRoom, BadMark, ShortEntry, CutEntry, NoEntries, IdsUsedUp, BufferSmall, BelowStart, OutsideWindow, BadBatch, Overlap, NotAscending, ValueTooLarge, CeilingReached, BadRaise}

-- the refusal with a number and a value
from_paper : ℕ → ℕ → Refusal
from_paper n v =
    pick (eqb n 1) BadState (
    pick (eqb n 2) OutOfOrder (
    pick (eqb n 3) TooLarge (
    pick (eqb n 4) NoRoom (
    pick (eqb n 5) (BadMark v) (
    pick (eqb n 6) (ShortEntry v) (
    pick (eqb n 7) (CutEntry v) (
    pick (eqb n 8) (NoEntries v) (
    pick (eqb n 9) IdsUsedUp (
    pick (eqb n 10) (BufferSmall v) (
    pick (eqb n 11) BelowStart (
    pick (eqb n 12) OutsideWindow (
    pick (eqb n 13) BadBatch (
    pick (eqb n 14) (Overlap v) (
    pick (eqb n 15) (NotAscending v) (
    pick (eqb n 16) ValueTooLarge (
    pick (eqb n 30) CeilingReached (
    BadRaise)))))))))))))))))

back : (r : Refusal) → from_paper (number_of r) (value_of r) ≡ r
unfolding from_paper
back BadState = refl
back OutOfOrder = refl
back TooLarge = refl
back NoRoom = refl
back (BadMark page) = refl
back (ShortEntry page) = refl
back (CutEntry page) = refl
back (NoEntries page) = refl
back IdsUsedUp = refl
back (BufferSmall needed) = refl
back BelowStart = refl
back OutsideWindow = refl
back BadBatch = refl
back (Overlap page) = refl
back (NotAscending page) = refl
back ValueTooLarge = refl
back CeilingReached = refl
back BadRaise = refl

pub refusal_unique : (r s : Refusal) → number_of r ≡ number_of s → value_of r ≡ value_of s → r ≡ s
refusal_unique r s n v = cc (back r, back s)

-- a promise `paper r ≡ answer` is met by one result
pub by_paper : {A B : Type 0} (paper : A → B) → ((r s : A) → paper r ≡ paper s → r ≡ s) → (answer : B) (r s : A) → paper r ≡ answer → paper s ≡ answer → r ≡ s
by_paper paper tells answer r s p q = tells r s (p ∙ sym q)
