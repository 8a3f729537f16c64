-- The shift of the guess: what leading zeros give is the fewest bits that bring y below 2^32. Assumes nothing.
use Prim.Native.Nat.{ℕ, zero, suc, ◌+◌, ◌-◌, ◌^◌, ◌≤◌, ◌<◌}
use mathlib.Core.Path.{◌≡◌, ap, ◌∙◌, subst}
use mathlib.Core.Logic.{⊎_elim}
use native.Mathlib.Omega.{arith}
use native.Mathlib.Nat.{le-div_iff_mul-le, div-lt_iff_lt-mul}
use borrow.Author.Tests.{lt-ltb, le-ltb}
use lib.Pow.{pow_pos, pow_mono, pow-add}
use lib.Count.{count_leading_zeros, leading_top}
use Rattle.catalog.specs.Guess.{shifted_right, least_from, least_shift}
use Rattle.refusal.proofs.Cases.{order, side}

-- k bits leave y below 2^32, and no fewer do
pub record Least (y k : ℕ) : Type 0 where
  pub below : shifted_right y k < 2 ^ 32
  pub least : (t : ℕ) → t < k → 2 ^ 32 ≤ shifted_right y t

least_from_lem : (n s y k : ℕ) → Least y k → s ≤ k → k ≤ s + n → least_from n s y ≡ k
unfolding least_from
least_from_lem zero s y k h l m = omega arith
least_from_lem (suc n) s y k h l m = ⊎_elim
    (λ e. rw (lt-ltb (shifted_right y s) (2 ^ 32) (rw e h.below)) e)
    (⊎_elim
    (λ e. rw (le-ltb (shifted_right y s) (2 ^ 32) (h.least s e)) (least_from_lem n (suc s) y k h (omega arith) (omega arith)))
    (λ e. absurd (omega arith)))
    (order s k)

-- what the code needs to know of its shift
pub record Shift (y k : ℕ) : Type 0 where
  pub is : least_shift y ≡ k
  pub most : k ≤ 32
  pub below : shifted_right y k < 2 ^ 32
  pub some : 0 < shifted_right y k

shift : (y k : ℕ) → k ≤ 32 → 2 ^ k ≤ y → Least y k → Shift y k
unfolding least_shift
shift y k m g l = record {
  is = least_from_lem 32 0 y k l (omega arith) (omega arith);
  most = m;
  below = l.below;
  some = (le-div_iff_mul-le (pow_pos k)).1 (omega arith);
}

shift_some : (y : ℕ) → 0 < y → y < 2 ^ 64 → count_leading_zeros 64 y < 32 → Shift y (32 - count_leading_zeros 64 y)
shift_some y p h z =
    let top = leading_top 64 y p h in
    let k : ℕ = 32 - count_leading_zeros 64 y in
    let e : top.0 ≡ 31 + k = omega arith in
    let low : 2 ^ (31 + k) ≤ y = subst (λ (x : ℕ). 2 ^ x ≤ y) e top.2 in
    let up : y < 2 ^ (32 + k) = subst (λ (x : ℕ). y < 2 ^ x) (ap suc e ∙ omega arith) top.3 in
    shift y k (omega arith) (omega (arith, pow-add 2 31 k))
    (record {
      below = (div-lt_iff_lt-mul (pow_pos k)).1 (omega (arith, pow-add 2 32 k));
      least = λ t l. (le-div_iff_mul-le (pow_pos t)).1 (omega (arith, pow-add 2 32 t, pow_mono {i = 32 + t} {j = 31 + k} (omega arith)));
    })

shift_none : (y : ℕ) → 0 < y → y < 2 ^ 64 → 32 ≤ count_leading_zeros 64 y → Shift y 0
shift_none y p h z =
    let top = leading_top 64 y p h in
    shift y 0 (omega arith) (omega arith)
    (record {
      below = omega (arith, pow_mono {i = suc top.0} {j = 32} (omega arith));
      least = λ t l. absurd (omega arith);
    })

-- the shift that the code takes
pub code_shift : (y k : ℕ) → 0 < y → y < 2 ^ 64 → k ≡ 32 - count_leading_zeros 64 y → Shift y k
code_shift y k p h e = ⊎_elim
    (λ z. rw e (shift_some y p h z))
    (λ z. let q : k ≡ 0 = omega arith in rw q (shift_none y p h z))
    (side (count_leading_zeros 64 y) 32)
