-- On any store and state: what a step hands over the log holds, with the data that it puts to the output's front. Assumes nothing.
use Prim.Native.Nat.{ℕ, ◌+◌, ◌*◌, ◌/◌}
use mathlib.Core.Path.{◌≡◌, refl, sym, ap, ◌∙◌}
use mathlib.Core.Logic.{⊎_elim}
use mathlib.Core.List.{List}
use native.Mathlib.Omega.{arith}
use lib.ListN.{length, take}
use Rattle.refusal.proofs.Cases.{side, which}
use Rattle.page.specs.Size.{page_size, id_size}
use Rattle.page.specs.Data.{data_at, copied}
use Rattle.page.proofs.Counting.{pages_some}
use Rattle.catalog.specs.Bounds.{bad_state, bad_cursor}
use Rattle.catalog.specs.Output.{WithOutput, with_output}
use Rattle.catalog.specs.declared.state.State.{State}
use Rattle.scanning.specs.Step.{Reaching, reached, ended, faulty, forward_from, Stepping, entry, end, refused, advance_of, step_of}
use Rattle.scanning.specs.declared.range.Range.{Range}
use Rattle.scanning.proofs.Laws.Forward.{reached_entry}
use Rattle.scanning.proofs.Laws.Handing.{advance_fault, advance_end, advance_small, advance_entry, step_bad_state, step_bad_cursor, step_open}
use Rattle.demands.specs.Push.{Holds}
use Rattle.demands.proofs.Lookup.Held.{held_at}

module _ (store : List ℕ) (st : State) (range : Range) (cursor : ℕ) (out : List ℕ) (id len next : ℕ) (left : List ℕ) where
  abbrev log : List ℕ
  log = take st.length store

  abbrev from : ℕ
  from = cursor / page_size

  pub record SteppedTo : Type 0 where
    pub page : ℕ
    pub held : Holds log id (data_at log page len)
    pub left_is : left ≡ copied log page len out

  is_entry : (r : Stepping) (x : List ℕ) → with_output r x ≡ with_output (entry id len next) left → r ≡ entry id len next
  is_entry r x f = ap (λ (y : WithOutput Stepping). y.answer) f

  not_refused : (number value : ℕ) → with_output (refused number value) out ≡ with_output (entry id len next) left → ⊥
  not_refused number value f = let g = is_entry _ out f in cc

  not_end : (at : ℕ) → with_output (end at) out ≡ with_output (entry id len next) left → ⊥
  not_end at f = let g = is_entry _ out f in cc

  advanced : advance_of log range from out ≡ with_output (entry id len next) left → SteppedTo
  advanced e = go (forward_from log range from) refl
    where
      go : (r : Reaching) → r ≡ forward_from log range from → SteppedTo
      go (reached page j n after) f = ⊎_elim
          (λ l. absurd (not_refused 10 n (advance_small log range from out page j n after f n refl l ∙ e)))
          (λ l.
          let g = advance_entry log range from out page j n after f n (after * page_size) refl refl l ∙ e in
          let r = is_entry (entry j n (after * page_size)) _ g in
          let a : j ≡ id = cc in
          let b : n ≡ len = cc in
          let h = reached_entry log range from page j n after f in
          record {
            page = page;
            held = rw (← b) (held_at log page id n (omega (arith, h.room, pages_some (id_size + n))) h.marked (sym h.id_is ∙ a) h.long h.len_is);
            left_is = rw b at (sym (ap (λ (y : WithOutput Stepping). y.out) g));
          })
          (side (length out) n)
      go (ended at) f = absurd (not_end at (advance_end log range from out at at f refl ∙ e))
      go (faulty number value) f = absurd (not_refused number value (advance_fault log range from out number value f ∙ e))

  pub stepped_to : step_of store st range cursor out ≡ with_output (entry id len next) left → SteppedTo
  stepped_to e = ⊎_elim
      (λ a. absurd (not_refused 1 0 (step_bad_state store st range cursor out a ∙ e)))
      (λ a. ⊎_elim
      (λ b. absurd (not_refused 1 0 (step_bad_cursor store st range cursor out a b ∙ e)))
      (λ b. advanced (sym (step_open store st range cursor out a b) ∙ e))
      (which (bad_cursor st.length cursor)))
      (which (bad_state store st.length))
