-- `Log::lookup` meets its contract: what is found lies in the log. Assumes nothing.
use mathlib.Core.Path.{◌≡◌, refl, sym, ◌∙◌}
use native.Mathlib.Omega.{arith}
use Prim.Native.Nat.{ℕ, ◌+◌, ◌/◌, ◌%◌, ◌≤◌}
use lib.Seq.{length-take-le}
use Rattle.page.specs.Size.{page_size, id_size, pages_for_data, page_count}
use Rattle.page.proofs.Counting.{pages_some}
use Rattle.catalog.specs.Lookup.{found, find_of}
use Rattle.catalog.proofs.Laws.Bounds.{is_log, not_bad}
use Rattle.catalog.proofs.Laws.Lookup.Tests.{find_in}
use Rattle.catalog.proofs.Laws.Lookup.Positions.{found_whole}
use Rattle.catalog.proofs.Laws.Lookup.Handing.{data_within, found_small, found_put}
use Rattle.catalog.proofs.log.Log.lookup.Goals as goal
use Rattle.catalog.proofs.log.Log.lookup.Goals.{In-Found}

pub seek-requires : goal.seek-requires
seek-requires c = let log = is_log _ _ c.in_ok-log.ensures in omega (arith, log.long, log.good.fits.small, log.good.fits.inside)

is_found : (c : In-Found) → find_of c.args.self.store.now c.args.self.state c.args.id ≡ found c.in-Found.position c.in-Found.length
is_found c =
    let log = is_log _ _ c.in_ok-log.ensures in
    find_in _ _ _ (not_bad _ _ log.good) ∙ sym (rw (c.in-Found.is, log.is) at c.in_ok-look.ensures)

-- its position is that of a page
at_page : (c : In-Found) → c.in-Found.position % page_size ≡ 0
at_page c = omega (arith, (found_whole _ _ _ _ _ (is_found c)).at_page)

pub returns-then-out-length : goal.returns-then-out-length
returns-then-out-length c = sym (found_small _ _ _ _ _ _ (is_found (goal.at.returns-then-out-length c).In-Found) (omega arith))

-- the data's pages lie in the log
within : (c : In-Found) → (s : ℕ) → s ≤ c.in-Found.position / page_size → (n : ℕ) → n ≡ c.in-Found.length → s + pages_for_data n ≤ page_count c.in_ok-log.log.now
within c s l n e = rw (e, (is_log _ _ c.in_ok-log.ensures).is) (data_within _ _ _ _ _ (is_found c) s l)

pub invariant_of-copy_data : goal.invariant_of-copy_data
invariant_of-copy_data c =
    let at = (goal.at.invariant_of-copy_data c).In-Found in
    let end = within at (c.in-Found.position / page_size) (omega arith) c.in-Found.length refl in
    record { inside = omega (arith, at_page at, end, pages_some (id_size + c.in-Found.length)) }

pub copy_data-requires : goal.copy_data-requires
copy_data-requires c =
    let at = (goal.at.copy_data-requires c).In-Found in
    within at _ (omega (arith, at_page at)) _ (length-take-le _ _ (omega arith))

pub returns-else-out-length : goal.returns-else-out-length
returns-else-out-length c =
    let at = (goal.at.returns-else-out-length c).In-Found in
    rw (c.copy_data.ensures, (is_log _ _ c.in_ok-log.ensures).is) (sym (found_put _ _ _ _ _ _ (is_found at) _ (omega arith) (omega arith)))
