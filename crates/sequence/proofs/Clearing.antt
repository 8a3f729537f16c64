-- The bits from n on are cleared in the first words, one word at a time. Assumes nothing.
use Prim.Native.Nat.{ℕ, zero, suc, ◌+◌, ◌-◌, ◌*◌, ◌/◌, ◌^◌, ◌≤◌, ◌<◌, min, max}
use mathlib.Core.Path.{◌≡◌, refl, sym, ap, ◌∙◌}
use mathlib.Core.Logic.{⊎_elim}
use mathlib.Core.List.{List, [], ◌∷◌}
use native.Mathlib.Numerals.{add-one}
use native.Mathlib.Omega.{arith}
use lib.Bits.{bit_and, and_mask}
use lib.ListN.{length, get_or, set}
use Rattle.sequence.specs.Window.{lowest, only}
use Rattle.refusal.proofs.Cases.{side}
use Rattle.sequence.proofs.Bits.{lowest_some, lowest_all, lowest_zero}

-- ---- what is left, word by word

pub only_length : (n count : ℕ) (ws : List ℕ) → length (only n count ws) ≡ length ws
unfolding only
only_length n zero ws = refl
only_length n (suc count) [] = refl
only_length n (suc count) (w ∷ ws) = ap suc (only_length (n - 64) count ws)

pub only_word : (n count : ℕ) (ws : List ℕ) (k : ℕ) → k < count → (m : ℕ) → m ≡ n - 64 * k → get_or (only n count ws) k 0 ≡ lowest (get_or ws k 0) m
unfolding only
only_word n zero ws k h m e = absurd (omega arith)
only_word n (suc count) [] k h m e = sym (lowest_zero m)
only_word n (suc count) (w ∷ ws) zero h m e = let q : n ≡ m = omega arith in ap (λ (x : ℕ). lowest w x) q
only_word n (suc count) (w ∷ ws) (suc k) h m e = only_word (n - 64) count ws k (omega arith) m (omega arith)

pub only_beyond : (n count : ℕ) (ws : List ℕ) (k : ℕ) → count ≤ k → get_or (only n count ws) k 0 ≡ get_or ws k 0
unfolding only
only_beyond n zero ws k h = refl
only_beyond n (suc count) [] k h = refl
only_beyond n (suc count) (w ∷ ws) zero h = absurd (omega arith)
only_beyond n (suc count) (w ∷ ws) (suc k) h = only_beyond (n - 64) count ws k (omega arith)

-- ---- the loop

-- words that lie before bit n stay whole
pub only_whole : (n count : ℕ) (ws : List ℕ) → 64 * count ≤ n → only n count ws ≡ ws
unfolding only
only_whole n zero ws h = refl
only_whole n (suc count) [] h = refl
only_whole n (suc count) (w ∷ ws) h = rw (lowest_all w n (omega arith)) (ap (λ (x : List ℕ). w ∷ x) (only_whole (n - 64) count ws (omega arith)))

-- one word more
only_next : (n i m : ℕ) (ws : List ℕ) → i < length ws → m ≡ n - 64 * i
    → set (only n i ws) i (lowest (get_or (only n i ws) i 0) m) ≡ only n (suc i) ws
unfolding only
only_next n i m [] h e = absurd (omega arith)
only_next n zero m (w ∷ ws) h e = let q : m ≡ n = omega arith in rw q
only_next n (suc i) m (w ∷ ws) h e = ap (λ (x : List ℕ). lowest w n ∷ x) (only_next (n - 64) i m ws (omega arith) (omega arith))

-- the word of bit n keeps the bits below it, a later one none
pub one_word_cleared : (n i m mask : ℕ) (v ws : List ℕ) → ws ≡ only n i v → n / 64 ≤ i → i < length v → m ≡ n - 64 * i → mask ≡ 2 ^ min 64 m - 1
    → set ws i (bit_and (get_or ws i 0) mask) ≡ only n (i + 1) v
one_word_cleared n i m mask v ws p g h e k =
    rw (p, k, few, and_mask (get_or (only n i v) i 0) m, add-one i) (rw (lowest_some (get_or (only n i v) i 0) m (omega arith)) at (only_next n i m v h e))
  where
    few : min 64 m ≡ m
    few = omega arith

pub all_cleared : (n count i : ℕ) (v ws : List ℕ) → ws ≡ only n i v → count ≤ i → i ≤ max count (n / 64) → ws ≡ only n count v
all_cleared n count i v ws p h to =
    ⊎_elim (λ l. p ∙ only_whole n i v (omega arith) ∙ sym (only_whole n count v (omega arith)))
    (λ g. let q : i ≡ count = omega arith in p ∙ ap (λ (k : ℕ). only n k v) q)
    (side count (n / 64))
