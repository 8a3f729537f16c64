-- Words that move down by one: the first is cleared, and then goes round to the end. Assumes nothing.
use Prim.Native.Nat.{ℕ, ◌<◌}
use mathlib.Core.Path.{◌≡◌, refl}
use mathlib.Core.List.{List, [], ◌∷◌, ◌++◌}
use native.Mathlib.Omega.{arith}
use lib.ListN.{length, take, drop, set}
use Rattle.sequence.specs.Window.{shifted}

pub turned : (words : List ℕ) → 0 < length words → drop 1 (set words 0 0) ++ take 1 (set words 0 0) ≡ shifted words
unfolding shifted
turned [] h = absurd (omega arith)
turned (word ∷ words) h = refl
