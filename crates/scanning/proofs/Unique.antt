-- No two results satisfy one promise: the rules' answers tell the code's apart, and so do the promises, a line for each public function. Assumes nothing.
use Prim.Native.Nat.{ℕ}
use mathlib.Core.Path.{◌≡◌, sym, ap, ◌∙◌}
use mathlib.Core.List.{List}
use Rattle.std.specs.Prelude.{Result, Ok, Err}
use Rattle.refusal.specs.declared.Refusal.{Refusal}
use Rattle.refusal.proofs.Unique.{refusal_unique, by_paper}
use Rattle.catalog.specs.declared.state.State.{State}
use Rattle.catalog.specs.Output.{WithOutput, with_output}
use Rattle.scanning.specs.Scan.{scan_of, paper_started}
use Rattle.scanning.specs.Step.{Stepping, step_of, paper_stepped}
use Rattle.scanning.specs.declared.range.Range.{Range}
use Rattle.scanning.specs.declared.stepping.Stepped.{Stepped}
use Rattle.scanning.specs.declared.stepping.Stepped.TheVariants.{Entry, End}

pub started_unique : (r s : Result ℕ Refusal) → paper_started r ≡ paper_started s → r ≡ s
started_unique (Ok cursor) (Ok cursor') e = cc
started_unique (Ok cursor) (Err r') e = cc
started_unique (Err r) (Ok cursor') e = cc
started_unique (Err r) (Err r') e = ap Err (refusal_unique r r' (cc) (cc))

pub stepped_unique : (r s : Result Stepped Refusal) → paper_stepped r ≡ paper_stepped s → r ≡ s
stepped_unique (Ok (Entry id len cursor)) (Ok (Entry id' len' cursor')) e = cc
stepped_unique (Ok (Entry id len cursor)) (Ok (End cursor')) e = cc
stepped_unique (Ok (Entry id len cursor)) (Err r') e = cc
stepped_unique (Ok (End cursor)) (Ok (Entry id' len' cursor')) e = cc
stepped_unique (Ok (End cursor)) (Ok (End cursor')) e = cc
stepped_unique (Ok (End cursor)) (Err r') e = cc
stepped_unique (Err r) (Ok (Entry id' len' cursor')) e = cc
stepped_unique (Err r) (Ok (End cursor')) e = cc
stepped_unique (Err r) (Err r') e = ap Err (refusal_unique r r' (cc) (cc))

module _ (store : List ℕ) (st : State) where
  pub scan_unique : (range : Range) (r s : Result ℕ Refusal) → paper_started r ≡ scan_of store st range → paper_started s ≡ scan_of store st range → r ≡ s
  scan_unique range = by_paper paper_started started_unique (scan_of store st range)

  pub step_unique : (range : Range) (cursor : ℕ) (r s : Result Stepped Refusal) (out b c : List ℕ)
      → with_output (paper_stepped r) b ≡ step_of store st range cursor out
      → with_output (paper_stepped s) c ≡ step_of store st range cursor out → (r ≡ s) × (b ≡ c)
  step_unique range cursor r s out b c p q =
      let e = p ∙ sym q in
      (stepped_unique r s (ap (λ (x : WithOutput Stepping). x.answer) e), ap (λ (x : WithOutput Stepping). x.out) e)
