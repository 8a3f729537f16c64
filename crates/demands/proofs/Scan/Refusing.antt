-- A refused step leaves the lent output as it was. Assumes nothing.
use Prim.Native.Nat.{ℕ, ◌*◌, ◌/◌}
use mathlib.Core.Path.{◌≡◌, refl}
use mathlib.Core.Bool.{◌||◌}
use mathlib.Core.List.{List}
use lib.ListN.{take}
use Rattle.refusal.proofs.Cases.{either}
use Rattle.page.specs.Size.{page_size}
use Rattle.catalog.specs.Bounds.{bad_state, bad_cursor}
use Rattle.catalog.specs.Output.{WithOutput}
use Rattle.scanning.specs.Step.{Reaching, reached, ended, faulty, forward_from, Stepping, entry, refused, hand_reached, advance_of, step_of}
use Rattle.catalog.specs.declared.state.State.{State}
use Rattle.scanning.specs.declared.range.Range.{Range}
use Rattle.demands.proofs.Output.{hand_refused}

abbrev RefusalLeaves : List ℕ → WithOutput Stepping → Type 0
RefusalLeaves out r = (number value : ℕ) → r.answer ≡ refused number value → r.out ≡ out

reached_leaves : (log out : List ℕ) (x : Reaching) → RefusalLeaves out (hand_reached log out x)
unfolding hand_reached
reached_leaves log out (reached page id len after) number value e =
    hand_refused refused (entry id len (after * page_size)) log page len out number value (λ f. cc) e
reached_leaves log out (ended cursor) number value e = refl
reached_leaves log out (faulty n v) number value e = refl

pub refused_step_keeps : (store : List ℕ) (st : State) (range : Range) (cursor : ℕ) (out : List ℕ) (number value : ℕ) → (step_of store st range cursor out).answer ≡ refused number value → (step_of store st range cursor out).out ≡ out
unfolding step_of advance_of
refused_step_keeps store st range cursor out =
    either (RefusalLeaves out) (bad_state store st.length || bad_cursor st.length cursor) (λ number value e. refl)
    (reached_leaves (take st.length store) out (forward_from (take st.length store) range (cursor / page_size)))
