-- What storing an id and moving start make of the ids that are noted, over any sequence and any words. Assumes nothing.
use Prim.Native.Nat.{ℕ, ◌+◌, ◌-◌, ◌/◌, ◌%◌, ◌^◌, ◌≤◌, ◌<◌, max}
use mathlib.Core.Path.{◌≡◌, refl, sym, ap, ◌∙◌}
use mathlib.Core.Logic.Iff
use mathlib.Core.Logic.{◌⊎◌, inl, inr, ⊎_elim, ◌↔◌}
use mathlib.Core.Bool.{true}
use mathlib.Core.List.{List}
use native.Mathlib.Omega.{arith}
use borrow.Author.Tests.{eqb-true, lt-ltb, le-ltb}
use lib.ListN.{length, get_or, length-set}
use Rattle.sequence.specs.Window.{bit_at, marked, marked_at, all_noted, only, shifted}
use Rattle.sequence.specs.Sequence.{next, passed, rounds}
use Rattle.sequence.specs.Known.{Known}
use Rattle.refusal.proofs.Cases.{side, same_or_not}
use Rattle.sequence.proofs.Bits.{ones_bits}
use Rattle.sequence.proofs.Window.{marked_at_lem, marked_elsewhere, shifted_bit, shifted_length, only_kept, only_cleared, first_bit}
use Rattle.sequence.proofs.Clearing.{only_length}
use Rattle.sequence.proofs.Rounds.{by_rounds}

-- ---- an id is stored, and the highest raised: it is noted, and no other that was not

module _ (after start : ℕ) (words : List ℕ) (size : length words ≡ 64) (id : ℕ) (over : start ≤ id) (near : id - start < 4096) where
  abbrev o : ℕ
  o = id - start

  abbrev left : List ℕ
  left = only (after - start) (o / 64 + 1) words

  left_size : length left ≡ 64
  left_size = only_length (after - start) (o / 64 + 1) words ∙ size

  pub stored_length : length (marked_at left o) ≡ 64
  stored_length = length-set left (o / 64) (marked (get_or left (o / 64) 0) (o % 64)) ∙ left_size

  pub known_stored : (i : ℕ) → Known (max after (id + 1)) start (marked_at left o) i ↔ (Known after start words i ⊎ (i ≡ id))
  known_stored i = (was, is)
    where
      older : start ≤ i → i < max after (id + 1) → (i - start ≡ o → ⊥) → bit_at left (i - start) ≡ 1 → Known after start words i
      older g l n e =
          ⊎_elim (λ b. inr (g, omega arith, sym (only_kept words (after - start) o (i - start) b) ∙ e))
          (λ a. absurd (omega (arith, only_cleared words (after - start) o (i - start) a (omega arith))))
          (side (i - start) (after - start))

      was : Known (max after (id + 1)) start (marked_at left o) i → Known after start words i ⊎ (i ≡ id)
      was (inl l) = inl (inl l)
      was (inr (g, l, e)) =
          ⊎_elim (λ q. inr (omega arith)) (λ n. inl (older g l n (sym (marked_elsewhere left o left_size near (i - start) n) ∙ e))) (same_or_not (i - start) o)

      here : i - start ≡ o → bit_at (marked_at left o) (i - start) ≡ 1
      here q = ap (λ (k : ℕ). bit_at (marked_at left o) k) q ∙ marked_at_lem left o left_size near

      still : i - start < after - start → bit_at words (i - start) ≡ 1 → bit_at (marked_at left o) (i - start) ≡ 1
      still l e =
          ⊎_elim here (λ n. marked_elsewhere left o left_size near (i - start) n ∙ only_kept words (after - start) o (i - start) l ∙ e) (same_or_not (i - start) o)

      is : Known after start words i ⊎ (i ≡ id) → Known (max after (id + 1)) start (marked_at left o) i
      is (inl (inl l)) = inl l
      is (inl (inr (g, l, e))) = inr (g, omega arith, still (omega arith) e)
      is (inr q) = inr (omega arith, omega arith, here (omega arith))

-- ---- start moves past ids that are noted: nothing else changes

module _ (after start : ℕ) (words : List ℕ) (some : start < after) (all : all_noted (get_or words 0 0) (next after start) ≡ true) where
  one : (k : ℕ) → k < next after start → bit_at words k ≡ 1
  one k l =
      first_bit words k (omega arith)
      ∙ ones_bits (get_or words 0 0) (next after start) (eqb-true (get_or words 0 0 % 2 ^ next after start) (2 ^ next after start - 1) all) k l

  passed_bit : (i : ℕ) → start + next after start ≤ i → i < after → bit_at (passed after start words) (i - (start + next after start)) ≡ bit_at words (i - start)
  passed_bit i g l =
      ap (λ (ws : List ℕ). bit_at ws (i - (start + next after start))) moves
      ∙ shifted_bit words (i - (start + next after start)) ∙ ap (λ (k : ℕ). bit_at words k) at
    where
      moves : passed after start words ≡ shifted words
      moves = rw (lt-ltb 64 (after - start) (omega arith))

      at : i - (start + next after start) + 64 ≡ i - start
      at = omega arith

  known_passed : (i : ℕ) → Known after (start + next after start) (passed after start words) i ↔ Known after start words i
  known_passed i = (was, is)
    where
      was : Known after (start + next after start) (passed after start words) i → Known after start words i
      was (inl l) = ⊎_elim (λ b. inl b) (λ g. inr (g, omega arith, one (i - start) (omega arith))) (side i start)
      was (inr (g, l, e)) = inr (omega arith, l, sym (passed_bit i g l) ∙ e)

      is : Known after start words i → Known after (start + next after start) (passed after start words) i
      is (inl l) = inl (omega arith)
      is (inr (g, l, e)) = ⊎_elim (λ b. inl b) (λ a. inr (a, l, passed_bit i a l ∙ e)) (side i (start + next after start))

  passed_length : length (passed after start words) ≡ length words
  passed_length =
      ⊎_elim (λ l. rw (lt-ltb 64 (after - start) l) (shifted_length words)) (λ g. rw (le-ltb 64 (after - start) g)) (side 64 (after - start))

module _ (k after start : ℕ) (words : List ℕ) where
  pub rounds_length : length (rounds k after start words).words ≡ length words
  rounds_length = by_rounds after (λ s ws. length ws ≡ length words) (λ s ws l e p. passed_length after s ws l e ∙ p) k start words refl

  pub rounds_rise : start ≤ (rounds k after start words).start
  rounds_rise = by_rounds after (λ s ws. start ≤ s) (λ s ws l e p. omega arith) k start words (omega arith)

  pub known_rounds : (i : ℕ) → Known after (rounds k after start words).start (rounds k after start words).words i ↔ Known after start words i
  known_rounds i =
      by_rounds after (λ s ws. Known after s ws i ↔ Known after start words i)
      (λ s ws l e p. Iff.trans (known_passed after s ws l e i) p)
      k start words Iff.rfl
