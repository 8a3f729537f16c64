-- No two results satisfy one promise: the rules' answers tell the code's apart, and so do the promises, a line for each public function. Assumes nothing.
use Prim.Native.Nat.{ℕ}
use mathlib.Core.Path.{◌≡◌, refl, sym, ap, ◌∙◌}
use mathlib.Core.List.{List}
use Rattle.std.proofs.Common.{Option, None, Some}
use Rattle.refusal.proofs.Unique.{refusal_unique}
use Rattle.refusal.specs.declared.Refusal.{Refusal}
use Rattle.catalog.specs.declared.state.State.{State}
use Rattle.pushing.specs.Push.{Pushing, paper_reason, paper_pushed, push_of}
use Rattle.pushing.specs.declared.Pushed.{Pushed}

pub reason_unique : (r s : Option Refusal) → paper_reason r ≡ paper_reason s → r ≡ s
reason_unique None None e = refl
reason_unique None (Some r') e = cc
reason_unique (Some r) None e = cc
reason_unique (Some r) (Some r') e = ap Some (refusal_unique r r' (cc) (cc))

made : (r s : Option Refusal) (m n : ℕ) (a b : State) → r ≡ s → m ≡ n → a ≡ b
    → ◌≡◌ {A = Pushed} (record { reason = r; written = m; state = a }) (record { reason = s; written = n; state = b })
made r s m n a b e f g = rw (e, f, g)

pub pushed_unique : (r s : Pushed) → paper_pushed r ≡ paper_pushed s → r ≡ s
pushed_unique r s e =
    made r.reason s.reason r.written s.written r.state s.state
    (reason_unique r.reason s.reason (ap (λ (a : Pushing). a.reason) e))
    (ap (λ (a : Pushing). a.written) e)
    (ap (λ (a : Pushing). a.state) e)

module _ (store : List ℕ) (st : State) (ids ends bytes : List ℕ) where
  pub push_unique : (r s : Pushed) (b c : List ℕ)
      → paper_pushed r ≡ (push_of store st ids ends bytes).answer → b ≡ (push_of store st ids ends bytes).store
      → paper_pushed s ≡ (push_of store st ids ends bytes).answer → c ≡ (push_of store st ids ends bytes).store
      → (r ≡ s) × (b ≡ c)
  push_unique r s b c p q p' q' = (pushed_unique r s (p ∙ sym p'), q ∙ sym q')
