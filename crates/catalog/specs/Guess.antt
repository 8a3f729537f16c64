-- Rules 8, "Lookup": the guess.
use Rattle.std.specs.Prelude.{ℕ, zero, suc, ◌-◌, ◌*◌, ◌/◌, ◌^◌, min, ltb}
use Rattle.refusal.specs.Pick.{pick}

-- y shifted right by s bits
abbrev pub shifted_right : ℕ → ℕ → ℕ
shifted_right y s = y / 2 ^ s

-- the first number of bits from s on that leaves y below 2^32, where k more are enough
unfoldable pub least_from : ℕ → ℕ → ℕ → ℕ
least_from zero s y = s
least_from (suc k) s y = pick (ltb (shifted_right y s) (2 ^ 32)) s (least_from k (suc s) y)

-- 8.3 "the fewest bits that bring y below 2^32": 32 are enough for 64-bit ids
unfoldable pub least_shift : ℕ → ℕ
least_shift y = least_from 32 0 y

-- 8.3 "min(W - 1, x * W / y)": how far above lo, of w pages, x and y not shifted yet
unfoldable pub offset_of : ℕ → ℕ → ℕ → ℕ
offset_of x y w = min (w - 1) (shifted_right x (least_shift y) * w / shifted_right y (least_shift y))
