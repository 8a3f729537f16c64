-- `push` meets its contract: the tests of the whole batch in order, then the entries. Assumes nothing.
use mathlib.Core.Path.{◌≡◌, sym, ap, ◌∙◌}
use mathlib.Core.List.{List}
use Prim.Native.Nat.{ℕ}
use denote.Ref.{Bor}
use Rattle.catalog.proofs.Laws.Bounds.{good_state}
use Rattle.catalog.specs.declared.state.State.{State}
use Rattle.pushing.specs.Push.{Done, Pushing, push_of}
use Rattle.pushing.specs.declared.batch.Batch.{Batch}
use Rattle.pushing.proofs.Laws.Tests.{refuse_state, refuse_batch, refuse_large, entries_in_turn}
use Rattle.pushing.proofs.push.Goals as goal

abbrev answer_of : Done → Pushing
answer_of done = done.answer

abbrev store_of : Done → List ℕ
store_of done = done.store

-- the batch is of what was handed over
same_push : (store : List ℕ) (st : State) (ids ends : Bor (List ℕ)) (bytes : Bor (List ℕ)) (b : Batch)
    → (b.ids ≡ ids) × (b.ends ≡ ends) × (b.bytes ≡ bytes)
    → push_of store st b.ids.now b.ends.now b.bytes.now ≡ push_of store st ids.now ends.now bytes.now
same_push store st ids ends bytes b e = rw (e.0, e.1, e.2)

pub returns-then-is_bad_state : goal.returns-then-is_bad_state
returns-then-is_bad_state c =
    let a = c.args in
    let e = refuse_state a.store.now a.state a.ids.now a.ends.now a.bytes.now (sym c.if-is_bad_state.ensures) in
    record { result_value = c.refused.ensures ∙ ap answer_of e; store_after = ap store_of e }

pub returns-in-Err : goal.returns-in-Err
returns-in-Err c =
    let a = c.args in
    let e = refuse_batch a.store.now a.state a.ids.now a.ends.now a.bytes.now (sym c.if-is_bad_state.ensures) c.in-Err.ensures.1 in
    record { result_value = (rw c.in-Err.ensures.0 at c.refused-in-Err.ensures) ∙ ap answer_of e; store_after = ap store_of e }

pub returns-in-Ok : goal.returns-in-Ok
returns-in-Ok c =
    let a = c.args in
    let b = c.in-Ok.batch in
    let e =
    refuse_large a.store.now a.state b.ids.now b.ends.now b.bytes.now (sym c.if-is_bad_state.ensures) b.good (sym c.if-has_large.ensures)
    ∙ same_push _ _ _ _ _ b c.in-Ok.ensures in
    record { result_value = c.refused-in-Ok.ensures ∙ ap answer_of e; store_after = ap store_of e }

pub write_entries-requires : goal.write_entries-requires
write_entries-requires c = (good_state _ _ (sym c.if-is_bad_state.ensures)).fits.inside

pub returns-in-Ok-2 : goal.returns-in-Ok-2
returns-in-Ok-2 c =
    let a = c.args in
    let b = c.in-Ok.batch in
    let said = c.write_entries.ensures in
    let e =
    entries_in_turn a.store.now a.state b.ids.now b.ends.now b.bytes.now (sym c.if-is_bad_state.ensures) b.good (sym c.if-has_large.ensures)
    ∙ same_push _ _ _ _ _ b c.in-Ok.ensures in
    record { result_value = said.result_value ∙ ap answer_of e; store_after = said.store_after ∙ ap store_of e }
