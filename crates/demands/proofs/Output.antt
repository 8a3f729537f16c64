-- Data handed over, or a refusal that leaves the output. Assumes nothing.
use Prim.Native.Nat.{ℕ}
use mathlib.Core.Path.{◌≡◌, ap, ◌∙◌, sym}
use mathlib.Core.Logic.{⊎_elim}
use mathlib.Core.List.{List}
use lib.ListN.{length}
use Rattle.refusal.proofs.Cases.{side}
use Rattle.catalog.specs.Output.{WithOutput, hand_over}
use Rattle.catalog.proofs.Laws.Output.{hand_small, hand_copied}

-- if the answer that goes with the data is no refusal, one is given only where the output stays
pub hand_refused : {A : Type 0} (refuse : ℕ → ℕ → A) (r : A) (log : List ℕ) (s n : ℕ) (out : List ℕ)
    → (number value : ℕ) → (r ≡ refuse number value → ⊥) → (hand_over refuse r log s n out).answer ≡ refuse number value → (hand_over refuse r log s n out).out ≡ out
hand_refused {A} refuse r log s n out number value never e = ⊎_elim
    (λ l. ap (λ (x : WithOutput A). x.out) (hand_small refuse r log s n out l))
    (λ l. absurd (never (sym (ap (λ (x : WithOutput A). x.answer) (hand_copied refuse r log s n out l)) ∙ e)))
    (side (length out) n)
