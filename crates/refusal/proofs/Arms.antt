-- What an arm of a match on a refusal gives, said of the refusal. Assumes nothing.
use mathlib.Core.Path.{◌≡◌, sym, ap, ◌∙◌}
use Prim.Native.Nat.{ℕ}
use Rattle.refusal.specs.declared.Refusal.{Refusal}

pub of_arm : (f : Refusal → ℕ) {r arm : Refusal} {n : ℕ} → r ≡ arm → n ≡ f arm → n ≡ f r
of_arm f e h = h ∙ sym (ap f e)
