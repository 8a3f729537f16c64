-- `advance` meets its contract where an entry is handed over: it lies in the log. Assumes nothing.
use native.Mathlib.Omega.{arith}
use Prim.Native.Nat.{◌+◌}
use lib.Seq.{length-take-le}
use Rattle.page.specs.Size.{id_size}
use Rattle.page.proofs.Counting.{pages_some}
use Rattle.page.proofs.Parting.{copied_part}
use Rattle.scanning.proofs.Laws.Forward.{ReachedEntry, reached_entry}
use Rattle.scanning.proofs.Laws.Handing.{advance_entry}
use Rattle.scanning.proofs.stepping.Walk.advance.Goals as goal
use Rattle.scanning.proofs.stepping.Walk.advance.Goals.{In-Some}

lies : (c : In-Some)
    → ReachedEntry c.args.self.log.now c.args.self.range c.in-Some.field-0.page c.in-Some.field-0.entry.id c.in-Some.field-0.entry.length c.in-Some.field-0.entry.after
lies c = reached_entry _ _ _ _ _ _ _ (rw c.in-Some.is at c.in_ok-page.ensures)

pub invariant_of-start : goal.invariant_of-start
invariant_of-start c =
    let there = lies (goal.at.invariant_of-start c).In-Some in
    record { inside = omega (arith, there.room, pages_some (id_size + c.in-Some.field-0.entry.length)) }

pub copy_data-requires : goal.copy_data-requires
copy_data-requires c = rw (length-take-le c.in-Some.field-0.entry.length c.args.out.now (omega arith)) (lies (goal.at.copy_data-requires c).In-Some).room

pub returns : goal.returns
returns c =
    rw (c.copy_data.ensures, copied_part c.args.self.log.now c.in-Some.field-0.page c.in-Some.field-0.entry.length c.args.out.now (omega arith))
    (advance_entry _ _ _ _ _ _ _ _ (rw c.in-Some.is at c.in_ok-page.ensures) _ _ (omega arith) (omega arith) (omega arith))
