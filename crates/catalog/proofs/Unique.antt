-- No two results satisfy one promise: each definition of the rules' answer tells every two answers of the code apart, and so do the promises, a line for each public function. Assumes nothing.
use Prim.Native.Nat.{ℕ}
use mathlib.Core.Path.{◌≡◌, refl, sym, ap, ◌∙◌}
use mathlib.Core.Bool.{Bool}
use mathlib.Core.List.{List}
use Rattle.std.specs.Prelude.{Result, Ok, Err}
use Rattle.refusal.specs.declared.Refusal.{Refusal}
use Rattle.refusal.specs.declared.Refusal.TheVariants.{BadState}
use Rattle.refusal.proofs.Unique.{refusal_unique, by_paper}
use Rattle.catalog.specs.State.{fresh, moved_to, Taking, taken, refused as untaken, take_of, paper_taken}
use Rattle.catalog.specs.Raise.{raise_of, paper_raised}
use Rattle.catalog.specs.Bounds.{bad_state, bad_cursor, log_of}
use Rattle.catalog.specs.Recovery.{Recovering, recovered, refused as unrecovered, recover_of, paper_recovered}
use Rattle.catalog.specs.Check.{check_of, paper_checked}
use Rattle.catalog.specs.Output.{WithOutput, with_output}
use Rattle.catalog.specs.Lookup.{Looking, find_of, lookup_of, paper_look}
use Rattle.catalog.specs.declared.state.State.{State}
use Rattle.catalog.specs.declared.state.Taken.{Taken}
use Rattle.catalog.specs.declared.recovery.Recovered.{Recovered}
use Rattle.catalog.specs.declared.searching.Look.{Look}
use Rattle.catalog.specs.declared.searching.Look.TheVariants.{Found, Absent}

-- ---- the rules' answers tell the code's apart

-- an answer back from the rules' one, where there is a state
taken_back : Taking → Result Taken Refusal
taken_back (taken id st) = Ok (record { id = id; state = st })
taken_back (untaken number value) = Err BadState

recovered_back : Recovering → Result Recovered Refusal
recovered_back (recovered st excess dropped) = Ok (record { state = st; excess = excess; dropped = dropped })
recovered_back (unrecovered number value) = Err BadState

pub taken_unique : (r s : Result Taken Refusal) → paper_taken r ≡ paper_taken s → r ≡ s
unfolding taken_back
taken_unique (Ok t) (Ok t') e = ap taken_back e
taken_unique (Ok t) (Err r') e = cc
taken_unique (Err r) (Ok t') e = cc
taken_unique (Err r) (Err r') e = ap Err (refusal_unique r r' (cc) (cc))

pub raised_unique : (r s : Result State Refusal) → paper_raised r ≡ paper_raised s → r ≡ s
raised_unique (Ok st) (Ok st') e = cc
raised_unique (Ok st) (Err r') e = cc
raised_unique (Err r) (Ok st') e = cc
raised_unique (Err r) (Err r') e = ap Err (refusal_unique r r' (cc) (cc))

pub checked_unique : (r s : Result Unit Refusal) → paper_checked r ≡ paper_checked s → r ≡ s
checked_unique (Ok _) (Ok _) e = refl
checked_unique (Ok _) (Err r') e = cc
checked_unique (Err r) (Ok _) e = cc
checked_unique (Err r) (Err r') e = ap Err (refusal_unique r r' (cc) (cc))

pub recovered_unique : (r s : Result Recovered Refusal)
    → paper_recovered r ≡ paper_recovered s → r ≡ s
unfolding recovered_back
recovered_unique (Ok r) (Ok s) e = ap recovered_back e
recovered_unique (Ok r) (Err r') e = cc
recovered_unique (Err r) (Ok s) e = cc
recovered_unique (Err r) (Err r') e = ap Err (refusal_unique r r' (cc) (cc))

pub look_unique : (r s : Result Look Refusal) → paper_look r ≡ paper_look s → r ≡ s
look_unique (Ok (Found position len)) (Ok (Found position' len')) e = cc
look_unique (Ok (Found position len)) (Ok (Absent position')) e = cc
look_unique (Ok (Found position len)) (Err r') e = cc
look_unique (Ok (Absent position)) (Ok (Found position' len')) e = cc
look_unique (Ok (Absent position)) (Ok (Absent position')) e = cc
look_unique (Ok (Absent position)) (Err r') e = cc
look_unique (Err r) (Ok (Found position' len')) e = cc
look_unique (Err r) (Ok (Absent position')) e = cc
look_unique (Err r) (Err r') e = ap Err (refusal_unique r r' (cc) (cc))

-- what is lent by its values, which is all that can be read of it
pub bytes_unique : (store : List ℕ) (st : State) (r s : Result (List ℕ) Refusal) → r ≡ log_of store st → s ≡ log_of store st → r ≡ s
bytes_unique store st r s p q = p ∙ sym q

-- ---- so each promise is met by one result and one content of each lent buffer

pub fresh_unique : (r s : State) → r ≡ fresh → s ≡ fresh → r ≡ s
fresh_unique r s p q = p ∙ sym q

pub moved_unique : (st : State) (n last : ℕ) (r s : State) → r ≡ moved_to st n last → s ≡ moved_to st n last → r ≡ s
moved_unique st n last r s p q = p ∙ sym q

pub bad_state_unique : (store : List ℕ) (n : ℕ) (r s : Bool) → r ≡ bad_state store n → s ≡ bad_state store n → r ≡ s
bad_state_unique store n r s p q = p ∙ sym q

pub bad_cursor_unique : (n cursor : ℕ) (r s : Bool) → r ≡ bad_cursor n cursor → s ≡ bad_cursor n cursor → r ≡ s
bad_cursor_unique n cursor r s p q = p ∙ sym q

pub take_unique : (st : State) (r s : Result Taken Refusal) → paper_taken r ≡ take_of st → paper_taken s ≡ take_of st → r ≡ s
take_unique st = by_paper paper_taken taken_unique (take_of st)

pub raise_unique : (st : State) (step : ℕ) (r s : Result State Refusal) → paper_raised r ≡ raise_of st step → paper_raised s ≡ raise_of st step → r ≡ s
raise_unique st step = by_paper paper_raised raised_unique (raise_of st step)

pub check_unique : (store : List ℕ) (n : ℕ) (r s : Result Unit Refusal) → paper_checked r ≡ check_of store n → paper_checked s ≡ check_of store n → r ≡ s
check_unique store n = by_paper paper_checked checked_unique (check_of store n)

pub recover_unique : (store : List ℕ) (n stored : ℕ) (r s : Result Recovered Refusal) → paper_recovered r ≡ recover_of store n stored → paper_recovered s ≡ recover_of store n stored → r ≡ s
recover_unique store n stored = by_paper paper_recovered recovered_unique (recover_of store n stored)

module _ (store : List ℕ) (st : State) where
  pub find_unique : (id : ℕ) (r s : Result Look Refusal) → paper_look r ≡ find_of store st id → paper_look s ≡ find_of store st id → r ≡ s
  find_unique id = by_paper paper_look look_unique (find_of store st id)

  pub lookup_unique : (id : ℕ) (r s : Result Look Refusal) (out b c : List ℕ)
      → with_output (paper_look r) b ≡ lookup_of store st id out → with_output (paper_look s) c ≡ lookup_of store st id out → (r ≡ s) × (b ≡ c)
  lookup_unique id r s out b c p q =
      let e = p ∙ sym q in
      (look_unique r s (ap (λ (x : WithOutput Looking). x.answer) e), ap (λ (x : WithOutput Looking). x.out) e)
