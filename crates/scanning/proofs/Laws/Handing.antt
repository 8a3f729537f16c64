-- What a step hands over, and that refusal 1 comes first. Assumes nothing.
use Prim.Native.Nat.{ℕ, ◌*◌, ◌/◌, ◌≤◌, ◌<◌}
use mathlib.Core.Path.{◌≡◌}
use mathlib.Core.Bool.{true, false}
use mathlib.Core.List.{List}
use lib.ListN.{length, take}
use Rattle.page.specs.Size.{page_size}
use Rattle.page.specs.Data.{copied}
use Rattle.catalog.specs.Output.{with_output, hand_over}
use Rattle.catalog.specs.Bounds.{bad_state, bad_cursor}
use Rattle.scanning.specs.Step.{reached, ended, faulty, forward_from, entry, end, refused, hand_reached, advance_of, step_of}
use Rattle.catalog.specs.declared.state.State.{State}
use Rattle.scanning.specs.declared.range.Range.{Range}
use Rattle.catalog.proofs.Laws.Output.{hand_small, hand_copied}
use Rattle.scanning.proofs.Laws.Forward.{reached_entry}

module _ (log : List ℕ) (range : Range) (from : ℕ) (out : List ℕ) where
  pub advance_fault : (number value : ℕ) → faulty number value ≡ forward_from log range from → with_output (refused number value) out ≡ advance_of log range from out
  unfolding advance_of hand_reached
  advance_fault number value e = rw (← e)

  pub advance_end : (cursor at : ℕ) → ended at ≡ forward_from log range from → cursor ≡ at → with_output (end cursor) out ≡ advance_of log range from out
  unfolding advance_of hand_reached
  advance_end cursor at e c = rw (← e, c)

  module _ (page id len after : ℕ) (e : reached page id len after ≡ forward_from log range from) where
    advance_reached : advance_of log range from out ≡ hand_over refused (entry id len (after * page_size)) log page len out
    unfolding advance_of hand_reached
    advance_reached = rw (← e)

    pub advance_small : (needed : ℕ) → needed ≡ len → length out < len → with_output (refused 10 needed) out ≡ advance_of log range from out
    advance_small needed n h = rw (advance_reached, hand_small refused (entry id len (after * page_size)) log page len out h, n)

    pub advance_entry : (size cursor : ℕ) → size ≡ len → cursor ≡ after * page_size → len ≤ length out
        → with_output (entry id size cursor) (copied log page len out) ≡ advance_of log range from out
    advance_entry size cursor n c h = rw (advance_reached, hand_copied refused (entry id len (after * page_size)) log page len out h, n, c)

-- where an entry is reached: that it lies in the log, and 10
pub ruleset at_entry = (reached_entry, advance_small)

module _ (store : List ℕ) (st : State) (range : Range) (cursor : ℕ) (out : List ℕ) where
  pub step_bad_state : bad_state store st.length ≡ true → with_output (refused 1 0) out ≡ step_of store st range cursor out
  unfolding step_of
  step_bad_state a = rw a

  module _ (a : bad_state store st.length ≡ false) where
    pub step_bad_cursor : bad_cursor st.length cursor ≡ true → with_output (refused 1 0) out ≡ step_of store st range cursor out
    unfolding step_of
    step_bad_cursor b = rw (a, b)

    pub step_open : bad_cursor st.length cursor ≡ false → step_of store st range cursor out ≡ advance_of (take st.length store) range (cursor / page_size) out
    unfolding step_of
    step_open b = rw (a, b)
