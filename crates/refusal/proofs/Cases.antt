-- How two numbers lie, as cases, for the proofs of every crate above. Assumes nothing.
use Prim.Native.Nat.{ℕ, ◌≤◌, ◌<◌}
use mathlib.Core.Path.{◌≡◌, refl}
use mathlib.Core.Bool.{Bool, true, false}
use mathlib.Core.Logic.{◌⊎◌, inl, inr, ⊎_elim}
use native.Mathlib.Omega.{arith}
use borrow.Author.Tests.{ltb-true, ltb-false, eqb-true, eqb-false}
use lib.Dec.{ltb, eqb}
use Rattle.refusal.specs.Pick.{pick}

pub side : (m n : ℕ) → (m < n) ⊎ (n ≤ m)
side m n = go (ltb m n) refl
  where
    go : (t : Bool) → ltb m n ≡ t → (m < n) ⊎ (n ≤ m)
    go true e = inl (ltb-true m n e)
    go false e = inr (ltb-false m n e)

pub order : (m n : ℕ) → (m ≡ n) ⊎ ((m < n) ⊎ (n < m))
order m n = ⊎_elim (λ l. inr (inl l)) (λ l. ⊎_elim (λ r. inr (inr r)) (λ r. inl (omega arith)) (side n m)) (side m n)

pub same_or_not : (m n : ℕ) → (m ≡ n) ⊎ (m ≡ n → ⊥)
same_or_not m n = go (eqb m n) refl
  where
    go : (t : Bool) → eqb m n ≡ t → (m ≡ n) ⊎ (m ≡ n → ⊥)
    go true e = inl (eqb-true m n e)
    go false e = inr (eqb-false m n e)

-- a Bool is one of two
pub which : (t : Bool) → (t ≡ true) ⊎ (t ≡ false)
which true = inl refl
which false = inr refl

-- what holds of both answers holds of the one that a test picks
pub either : {A : Type 0} (P : A → Type 0) (t : Bool) {x y : A} → P x → P y → P (pick t x y)
either P true a b = a
either P false a b = b
