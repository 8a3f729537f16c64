-- No two results satisfy one promise. Each promise of this crate is an equation of the whole struct, and of what a lent `&mut` array holds after the call. Assumes nothing.
use Prim.Native.Nat.{ℕ}
use mathlib.Core.Path.{◌≡◌, sym, ◌∙◌}
use mathlib.Core.List.{List}

-- fresh, take, raise, check, recover, find, scan, sequence_new, sequence_complete
pub result_unique : {A : Type 0} (r s promised : A) → r ≡ promised → s ≡ promised → r ≡ s
result_unique r s promised p q = p ∙ sym q

-- lookup and step with `out`, push with `store`, sequence_note with `words`
pub both_unique : {A : Type 0} (r s promised : A) (b c left : List ℕ)
    → (r ≡ promised) × (b ≡ left) → (s ≡ promised) × (c ≡ left) → (r ≡ s) × (b ≡ c)
both_unique r s promised b c left p q = (p.0 ∙ sym q.0, p.1 ∙ sym q.1)
