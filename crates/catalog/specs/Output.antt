-- An answer with what the lent output holds after it, and how an entry's data is handed over, by a lookup and by a step.
use Rattle.std.specs.Prelude.{ℕ, List, ltb, length}
use Rattle.refusal.specs.Pick.{pick}
use Rattle.page.specs.Data.{copied}

pub record WithOutput (A : Type 0) : Type 0 where
  pub answer : A
  pub out : List ℕ

abbrev pub with_output : {A : Type 0} → A → List ℕ → WithOutput A
with_output r out = record { answer = r; out = out }

-- 8.8 "10 if the output is too short for the data, else the data is put to its front and the rest of it stays": the n data bytes of the entry at page s go with the answer r
unfoldable pub hand_over : {A : Type 0} → (ℕ → ℕ → A) → A → List ℕ → ℕ → ℕ → List ℕ → WithOutput A
hand_over refuse r log s n out = pick (ltb (length out) n) (with_output (refuse 10 n) out) (with_output r (copied log s n out))
