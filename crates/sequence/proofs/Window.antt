-- The bits of all words, one after the other: what marking, shifting and clearing make of them. Assumes nothing.
use Prim.Native.Nat.{ℕ, zero, suc, ◌+◌, ◌-◌, ◌*◌, ◌/◌, ◌%◌, ◌≤◌, ◌<◌}
use mathlib.Core.Path.{◌≡◌, refl, sym, ap, ◌∙◌}
use mathlib.Core.Logic.{⊎_elim}
use mathlib.Core.List.{List, [], ◌∷◌, ◌++◌}
use native.Mathlib.Numerals.{add-one}
use native.Mathlib.Omega.{arith}
use lib.ListN.{length, get_or, length-append}
use lib.Seq.{get_or-set_same, get_or-set_other}
use Rattle.sequence.specs.Window.{bit, bit_at, marked, marked_at, lowest, only, shifted}
use Rattle.refusal.proofs.Cases.{side, same_or_not}
use Rattle.sequence.proofs.Bits.{marked_same, marked_other, lowest_below, lowest_above}
use Rattle.sequence.proofs.Clearing.{only_word, only_beyond}

-- ---- one is marked

module _ (words : List ℕ) (o : ℕ) (size : length words ≡ 64) (near : o < 4096) where
  here : get_or (marked_at words o) (o / 64) 0 ≡ marked (get_or words (o / 64) 0) (o % 64)
  here = get_or-set_same words (o / 64) (marked (get_or words (o / 64) 0) (o % 64)) 0 (omega arith)

  pub marked_at_lem : bit_at (marked_at words o) o ≡ 1
  marked_at_lem = ap (λ (w : ℕ). bit w (o % 64)) here ∙ marked_same (get_or words (o / 64) 0) (o % 64)

  pub marked_elsewhere : (k : ℕ) → (k ≡ o → ⊥) → bit_at (marked_at words o) k ≡ bit_at words k
  marked_elsewhere k n = ⊎_elim in_word other (same_or_not (k / 64) (o / 64))
    where
      in_word : k / 64 ≡ o / 64 → bit_at (marked_at words o) k ≡ bit_at words k
      in_word e =
          ap (λ (j : ℕ). bit (get_or (marked_at words o) j 0) (k % 64)) e ∙ ap (λ (w : ℕ). bit w (k % 64)) here
          ∙ marked_other (get_or words (o / 64) 0) (o % 64) (k % 64) (λ q. n (omega arith)) ∙ ap (λ (j : ℕ). bit (get_or words j 0) (k % 64)) (sym e)

      other : (k / 64 ≡ o / 64 → ⊥) → bit_at (marked_at words o) k ≡ bit_at words k
      other f = ap (λ (w : ℕ). bit w (k % 64)) (get_or-set_other words (o / 64) (k / 64) (marked (get_or words (o / 64) 0) (o % 64)) 0 f)

-- ---- all move down by a word

ended : (ws : List ℕ) (j : ℕ) → get_or (ws ++ (0 ∷ [])) j 0 ≡ get_or ws j 0
ended [] zero = refl
ended [] (suc j) = refl
ended (w ∷ ws) zero = refl
ended (w ∷ ws) (suc j) = ended ws j

shifted_word : (ws : List ℕ) (j : ℕ) → get_or (shifted ws) j 0 ≡ get_or ws (suc j) 0
unfolding shifted
shifted_word [] j = refl
shifted_word (w ∷ ws) j = ended ws j

pub shifted_bit : (ws : List ℕ) (k : ℕ) → bit_at (shifted ws) k ≡ bit_at ws (k + 64)
shifted_bit ws k =
    ap (λ (w : ℕ). bit w (k % 64)) (shifted_word ws (k / 64)) ∙ at ((k + 64) / 64) ((k + 64) % 64) (sym (add-one (k / 64)) ∙ omega arith) (omega arith)
  where
    at : (q r : ℕ) → suc (k / 64) ≡ q → k % 64 ≡ r → bit (get_or ws (suc (k / 64)) 0) (k % 64) ≡ bit (get_or ws q 0) r
    at q r e f = cc

pub shifted_length : (ws : List ℕ) → length (shifted ws) ≡ length ws
unfolding shifted
shifted_length [] = refl
shifted_length (w ∷ ws) = length-append ws (0 ∷ []) ∙ add-one (length ws)

-- ---- the bits from n on are cleared, in the words up to that of bit o

module _ (words : List ℕ) (n o k : ℕ) where
  low : k / 64 < o / 64 + 1 → bit_at (only n (o / 64 + 1) words) k ≡ bit (lowest (get_or words (k / 64) 0) (n - 64 * (k / 64))) (k % 64)
  low h = ap (λ (w : ℕ). bit w (k % 64)) (only_word n (o / 64 + 1) words (k / 64) h (n - 64 * (k / 64)) refl)

  beyond : o / 64 + 1 ≤ k / 64 → bit_at (only n (o / 64 + 1) words) k ≡ bit_at words k
  beyond h = ap (λ (w : ℕ). bit w (k % 64)) (only_beyond n (o / 64 + 1) words (k / 64) h)

  pub only_kept : k < n → bit_at (only n (o / 64 + 1) words) k ≡ bit_at words k
  only_kept h =
      ⊎_elim (λ l. low l ∙ lowest_below (get_or words (k / 64) 0) (n - 64 * (k / 64)) (k % 64) (omega arith) (omega arith)) beyond (side (k / 64) (o / 64 + 1))

  pub only_cleared : n ≤ k → k ≤ o → bit_at (only n (o / 64 + 1) words) k ≡ 0
  only_cleared h l = low (omega arith) ∙ lowest_above (get_or words (k / 64) 0) (n - 64 * (k / 64)) (k % 64) (omega arith) (omega arith)

-- ---- the first word

pub first_bit : (ws : List ℕ) (k : ℕ) → k < 64 → bit_at ws k ≡ bit (get_or ws 0 0) k
first_bit ws k h = at (k / 64) (k % 64) (omega arith) (omega arith)
  where
    at : (q r : ℕ) → q ≡ 0 → r ≡ k → bit (get_or ws q 0) r ≡ bit (get_or ws 0 0) k
    at q r e f = cc
