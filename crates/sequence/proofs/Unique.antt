-- No two results satisfy one promise. Assumes nothing.
use Prim.Native.Nat.{ℕ}
use mathlib.Core.Path.{◌≡◌, sym, ap, ◌∙◌}
use mathlib.Core.Bool.{Bool}
use mathlib.Core.List.{List}
use native.Mathlib.Omega.{arith}
use Rattle.std.specs.Prelude.{Result, Ok, Err}
use Rattle.refusal.proofs.Unique.{refusal_unique}
use Rattle.sequence.specs.Sequence.{paper_noted, new_of, complete_of, note_of}
use Rattle.sequence.specs.declared.IdSequence.{IdSequence}
use Rattle.refusal.specs.declared.Refusal.{Refusal}

-- the rules' answer tells a result from every other
pub paper_unique : (r s : Result IdSequence Refusal) → paper_noted r ≡ paper_noted s → r ≡ s
paper_unique (Ok a) (Ok b) e = ap Ok (same_sequence (cc) (cc))
  where
    made : (start after : ℕ) → IdSequence
    made start after = record { start = start; after = after }

    same_sequence : a.start ≡ b.start → a.after ≡ b.after → a ≡ b
    same_sequence p q = ap (λ (x : ℕ). made x a.after) p ∙ ap (λ (x : ℕ). made b.start x) q
paper_unique (Ok a) (Err s) e = let z : ◌≡◌ {A = ℕ} 0 1 = cc in absurd (omega arith)
paper_unique (Err r) (Ok b) e = let z : ◌≡◌ {A = ℕ} 0 1 = cc in absurd (omega arith)
paper_unique (Err r) (Err s) e = ap Err (refusal_unique r s (cc) (cc))

pub new_unique : (start : ℕ) (r s : IdSequence) → r ≡ new_of start → s ≡ new_of start → r ≡ s
new_unique start r s p q = p ∙ sym q

pub note_unique : (q : IdSequence) (words : List ℕ) (id : ℕ) (r s : Result IdSequence Refusal) (v w : List ℕ)
    → (paper_noted r ≡ (note_of q words id).answer) × (v ≡ (note_of q words id).words)
    → (paper_noted s ≡ (note_of q words id).answer) × (w ≡ (note_of q words id).words)
    → (r ≡ s) × (v ≡ w)
note_unique q words id r s v w a b = (paper_unique r s (a.0 ∙ sym b.0), a.1 ∙ sym b.1)

pub complete_unique : (q : IdSequence) (r s : Bool) → r ≡ complete_of q → s ≡ complete_of q → r ≡ s
complete_unique q r s a b = a ∙ sym b
