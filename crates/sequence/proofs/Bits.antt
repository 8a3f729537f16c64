-- The bits of a word: setting one, keeping the first n, and all of the first n set. Assumes nothing.
use Prim.Native.Nat.{ℕ, zero, suc, ◌+◌, ◌-◌, ◌*◌, ◌/◌, ◌%◌, ◌^◌, ◌≤◌, ◌<◌, max}
use mathlib.Core.Path.{◌≡◌, refl, sym, ap, ◌∙◌}
use mathlib.Core.Logic.{◌⊎◌, inl, inr, ⊎_elim}
use native.Mathlib.Nat.{mod-lt, zero-mod, div-eq_of_lt, lt_of_lt_of_le, one-mul, pow-suc}
use native.Mathlib.Numerals.{one-add, add-one}
use native.Mathlib.Omega.{arith}
use borrow.Author.Tests.{lt-ltb, le-ltb, eq-eqb, ne_eqb}
use lib.Bits.{bit_and, bit_or, and_high, or_add_and, or_shr, or_step}
use lib.Pow.{pow_pos, pow-lt, pow_mono, pow-add, high_ones, field, mod-pow-add, mod-mod-pow, shl-shr}
use lib.Dec.{lit<, eqb}
use Rattle.refusal.proofs.Cases.{side}
use Rattle.sequence.specs.Window.{bit, marked, lowest}
use Rattle.refusal.specs.Pick.{pick}

bit_cases : (w k : ℕ) → (bit w k ≡ 0) ⊎ (bit w k ≡ 1)
bit_cases w k = two (bit w k) (mod-lt (w / 2 ^ k) (lit< tt))
  where
    two : (b : ℕ) → b < 2 → (b ≡ 0) ⊎ (b ≡ 1)
    two zero h = inl refl
    two (suc zero) h = inr refl
    two (suc (suc b)) h = absurd (omega arith)

-- ---- one bit is set

and_power : (w k : ℕ) → bit_and w (2 ^ k) ≡ bit w k * 2 ^ k
and_power w k = rw (high_ones 1 k ∙ one-mul (2 ^ k)) at (and_high w 1 k)

pub or_marked : (w k : ℕ) → bit_or w (2 ^ k) ≡ marked w k
or_marked w k = ⊎_elim (absent (bit w k) (and_power w k)) (present (bit w k) (and_power w k)) (bit_cases w k)
  where
    absent : (b : ℕ) → bit_and w (2 ^ k) ≡ b * 2 ^ k → b ≡ 0 → bit_or w (2 ^ k) ≡ pick (eqb b 1) w (w + 2 ^ k)
    absent b e z = rw (ne_eqb b 1 (λ o. absurd (omega arith))) (omega (arith, or_add_and w (2 ^ k), rw z at e))

    present : (b : ℕ) → bit_and w (2 ^ k) ≡ b * 2 ^ k → b ≡ 1 → bit_or w (2 ^ k) ≡ pick (eqb b 1) w (w + 2 ^ k)
    present b e o = rw (eq-eqb b 1 o) (omega (arith, or_add_and w (2 ^ k), rw o at e))

power_same : (k : ℕ) → bit (2 ^ k) k ≡ 1
power_same k = rw (ap (λ (x : ℕ). x / 2 ^ k) (sym (one-mul (2 ^ k))) ∙ shl-shr 1 k)

power_other : (k j : ℕ) → (j ≡ k → ⊥) → bit (2 ^ k) j ≡ 0
power_other k j n = ⊎_elim below above (side k j)
  where
    below : k < j → bit (2 ^ k) j ≡ 0
    below h = rw (div-eq_of_lt (pow-lt h))

    split : (d : ℕ) → d + 1 + j ≡ k → bit (2 ^ k) j ≡ 0
    split d e = rw (sym e, pow-add 2 (d + 1) j, shl-shr (2 ^ (d + 1)) j, add-one d, pow-suc 2 d) (omega arith)

    above : j ≤ k → bit (2 ^ k) j ≡ 0
    above h = let h' : j < k = omega (arith, n) in split (k - j - 1) (omega arith)

or_bit : (a b j : ℕ) → bit (bit_or a b) j ≡ max (bit a j) (bit b j)
or_bit a b j = rw (or_shr a b j, or_step (a / 2 ^ j) (b / 2 ^ j)) (low _ _ _ (mod-lt (a / 2 ^ j) (lit< tt)) (mod-lt (b / 2 ^ j) (lit< tt)))
  where
    low : (x m n : ℕ) → m < 2 → n < 2 → (x * 2 + max m n) % 2 ≡ max m n
    low x m n h l = omega arith

pub marked_same : (w k : ℕ) → bit (marked w k) k ≡ 1
marked_same w k = sym (ap (λ (x : ℕ). bit x k) (or_marked w k)) ∙ or_bit w (2 ^ k) k ∙ rw (power_same k) (omega (arith, mod-lt (w / 2 ^ k) {m = 2} (lit< tt)))

pub marked_other : (w k j : ℕ) → (j ≡ k → ⊥) → bit (marked w k) j ≡ bit w j
marked_other w k j n = sym (ap (λ (x : ℕ). bit x j) (or_marked w k)) ∙ or_bit w (2 ^ k) j ∙ rw (power_other k j n) (omega arith)

-- ---- the first n bits are kept

low_bit : (w n k : ℕ) → k < n → bit (w % 2 ^ n) k ≡ bit w k
low_bit w n k h = split (n - k - 1) (omega arith)
  where
    split : (d : ℕ) → d + 1 + k ≡ n → bit (w % 2 ^ n) k ≡ bit w k
    split d e = rw (sym e, field w (d + 1) k) (mod-mod-pow (w / 2 ^ k) d 1)

high_bit : (w n k : ℕ) → n ≤ k → bit (w % 2 ^ n) k ≡ 0
high_bit w n k h = rw (div-eq_of_lt (lt_of_lt_of_le (mod-lt w (pow_pos n)) (pow_mono h)))

pub lowest_some : (w n : ℕ) → n < 64 → lowest w n ≡ w % 2 ^ n
lowest_some w n h = rw (lt-ltb n 64 h)

pub lowest_all : (w n : ℕ) → 64 ≤ n → lowest w n ≡ w
lowest_all w n h = rw (le-ltb n 64 h)

pub lowest_zero : (n : ℕ) → lowest 0 n ≡ 0
lowest_zero n = ⊎_elim (λ h. lowest_some 0 n h ∙ zero-mod (2 ^ n)) (λ h. lowest_all 0 n h) (side n 64)

pub lowest_below : (w n k : ℕ) → k < 64 → k < n → bit (lowest w n) k ≡ bit w k
lowest_below w n k l h =
    ⊎_elim (λ s. ap (λ (x : ℕ). bit x k) (lowest_some w n s) ∙ low_bit w n k h) (λ a. ap (λ (x : ℕ). bit x k) (lowest_all w n a)) (side n 64)

pub lowest_above : (w n k : ℕ) → k < 64 → n ≤ k → bit (lowest w n) k ≡ 0
lowest_above w n k l h = ap (λ (x : ℕ). bit x k) (lowest_some w n (omega arith)) ∙ high_bit w n k h

-- ---- the first n bits are set

digit : (b p r : ℕ) → b < 2 → r < p → b * p + r ≡ p * 2 - 1 → (b ≡ 1) × (r ≡ p - 1)
digit zero p r h l e = absurd (omega arith)
digit (suc zero) p r h l e = (refl, omega arith)
digit (suc (suc b)) p r h l e = absurd (omega arith)

more : (w n : ℕ) → w % 2 ^ suc n ≡ bit w n * 2 ^ n + w % 2 ^ n
more w n = rw (sym (one-add n)) (mod-pow-add w 1 n)

pub ones_bits : (w n : ℕ) → w % 2 ^ n ≡ 2 ^ n - 1 → (k : ℕ) → k < n → bit w k ≡ 1
ones_bits w zero e k h = absurd (omega arith)
ones_bits w (suc n) e k h = ⊎_elim (λ l. ones_bits w n d.1 k l) (λ g. top (omega arith)) (side k n)
  where
    d : (bit w n ≡ 1) × (w % 2 ^ n ≡ 2 ^ n - 1)
    d = digit (bit w n) (2 ^ n) (w % 2 ^ n) (mod-lt (w / 2 ^ n) (lit< tt)) (mod-lt w (pow_pos n)) (sym (more w n) ∙ e ∙ ap (λ (x : ℕ). x - 1) (pow-suc 2 n))

    top : k ≡ n → bit w k ≡ 1
    top q = rw q d.0

pub bits_ones : (w n : ℕ) → ((k : ℕ) → k < n → bit w k ≡ 1) → w % 2 ^ n ≡ 2 ^ n - 1
bits_ones w zero f = omega arith
bits_ones w (suc n) f =
    more w n ∙ rw (f n (omega arith), bits_ones w n (λ k h. f k (omega arith)), pow-suc 2 n) (omega (arith, pow_pos n))
