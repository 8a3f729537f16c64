-- `offset` meets its contract: leading zeros give the least shift (`Shift`). Assumes nothing.
use Prim.Native.Nat.{◌≤◌, ◌*◌, ◌/◌, ◌^◌}
use native.Mathlib.Omega.{arith}
use native.Mathlib.Nat.{mul-le-mul_right}
use lib.Pow.{shr_mono}
use Rattle.catalog.specs.Guess.{offset_of}
use Rattle.catalog.proofs.Laws.Lookup.Shift.{Shift, code_shift}
use Rattle.catalog.proofs.searching.offset.Goals as goal
use Rattle.catalog.proofs.searching.offset.Goals.{After-saturating_sub-shift}

-- the code's shift is the least
least : (c : After-saturating_sub-shift) → Shift c.args.y c.saturating_sub-shift.result
least c = code_shift _ _ (omega arith) (omega arith) c.saturating_sub-shift.ensures

pub overflow_mul-guess : goal.overflow_mul-guess
overflow_mul-guess c =
    let k = c.saturating_sub-shift.result in
    let x = c.args.x in
    let w = c.args.w in
    let m : x / 2 ^ k ≤ c.args.y / 2 ^ k = shr_mono k (omega arith) in
    let l : x / 2 ^ k * w ≤ 4294967296 * w = mul-le-mul_right w (omega (arith, (least c).below)) in
    omega arith

pub nonzero_div-guess : goal.nonzero_div-guess
nonzero_div-guess c = (least c).some

pub returns : goal.returns
unfolding offset_of
returns c = rw (least (goal.at.returns c).After-saturating_sub-shift).is (omega (arith, c.min.ensures))
