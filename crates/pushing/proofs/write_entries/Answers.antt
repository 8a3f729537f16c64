-- `write_entries` meets its contract: what is left to do is what was to do. Assumes nothing.
use mathlib.Core.Path.{refl, ap, ◌∙◌}
use native.Mathlib.Omega.{arith}
use Prim.Native.Nat.{◌≤◌}
use lib.ListN.{length}
use Rattle.std.specs.Iterator.Adapters.{enumerate_source, zip_first}
use Rattle.std.specs.Slice.Iter.{iter_rest}
use Rattle.std.proofs.lemmas.List.{take_all}
use Rattle.std.proofs.lemmas.Slice.Zip.{either_empty_from_Zip}
use Rattle.pushing.specs.Push.{pushing, none}
use Rattle.pushing.proofs.Laws.Entries.{entries_begin, data_inside, entries_refused, entries_again, entries_end}
use Rattle.pushing.proofs.write_entries.Goals as goal
use Rattle.pushing.proofs.write_entries.Goals.{In-Some}

-- where the next entry's data lies
lies : (p : In-Some) → (p.loop-written.from ≤ p.in-Some.field-0-1-1.now) × (p.in-Some.field-0-1-1.now ≤ length p.args.batch.bytes.now)
lies p =
    let s = p.in-Some.ensures.steps in
    data_inside p.args.batch.good p.loop-written.invariant _ _ _ _ s.0.0 s.0.1

-- The check finds this alone: it stands so that a wrong program is refused at the fact that is false, the ids that are left.
pub loop-written-init : goal.loop-written-init
loop-written-init c =
    let pairs = ap enumerate_source c.into_iter-written-iterator.ensures.into_iter_gives ∙ c.enumerate-written-items.ensures.source in
    let ids = ap (λ z. iter_rest (zip_first z)) pairs ∙ ap iter_rest c.zip.ensures.first ∙ c.iter.ensures.rest in
    entries_begin _ _ c.args.batch.ids.now _ _ _ _ _ c.requires (rw ids (grind (arith, take_all))) (cc) (cc)

pub slice_bounds-write_in_turn-count : goal.slice_bounds-write_in_turn-count
slice_bounds-write_in_turn-count c = (lies (goal.at.slice_bounds-write_in_turn-count c).In-Some).0

pub slice_bounds-write_in_turn-start : goal.slice_bounds-write_in_turn-start
slice_bounds-write_in_turn-start c = omega (arith, lies (goal.at.slice_bounds-write_in_turn-start c).In-Some)

pub slice_bounds-write_in_turn-end : goal.slice_bounds-write_in_turn-end
slice_bounds-write_in_turn-end c = omega (arith, lies (goal.at.slice_bounds-write_in_turn-end c).In-Some)

pub returns-in-Err : goal.returns-in-Err
returns-in-Err c =
    let s = c.in-Some.ensures.steps in
    let e =
    entries_refused c.args.batch.good c.loop-written.invariant _ _ _ _ s.0.0 s.0.1 _ _ c.write_in_turn.ensures _ c.in-Err.is
    _ _ _ c.refused.ensures (omega (arith, s.1)) (omega arith) (omega arith) (omega arith) (omega arith) in
    record { result_value = e.0; store_after = e.1 }

pub loop-written-preserved : goal.loop-written-preserved
loop-written-preserved c =
    let s = c.in-Some.ensures.steps in
    entries_again c.args.batch.good c.loop-written.invariant _ _ _ _ s.0.0 s.0.1 _ _ c.write_in_turn.ensures _ c.in-Ok.is (omega arith) _ s.2

pub returns : goal.returns
returns c =
    let w = c.loop-written in
    let l = either_empty_from_Zip (enumerate_source w.written-iterator) (enumerate_source c.next.new.self) _ refl c.in-None.ensures.steps.0 in
    let e = entries_end c.args.batch.good w.invariant l (pushing none (length c.args.batch.ids.now) w.state) _ refl (omega arith) in
    record { result_value = e.0; store_after = e.1 }
