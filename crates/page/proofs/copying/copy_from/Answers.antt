-- `copy_from` meets its contract: each byte is read from its place. Assumes nothing.
use mathlib.Core.Path.{◌≡◌}
use mathlib.Core.List.{List, ◌++◌}
use Prim.Native.Nat.{◌<◌, ℕ, ◌+◌, ◌-◌}
use native.Mathlib.Omega.{arith}
use borrow.Author.Rules.{rules}
use lib.ListN.{length, set, get_or, drop}
use Rattle.page.specs.Size.{data_start}
use Rattle.page.specs.Data.{place_of}
use Rattle.page.proofs.Listing.{tab_store}
use Rattle.page.proofs.Placing.{place_linear, place_within}
use Rattle.page.specs.Private.{data_from}
use Rattle.page.proofs.copying.copy_from.Goals as goal

pub loop-byte-init : goal.loop-byte-init
unfolding data_from
loop-byte-init c = search rules

-- one byte copied, wherever the code reads it, if that is its place
stored : (part out : List ℕ) (at i : ℕ) → i < length out → at ≡ place_of i - data_start
    → set (data_from part i ++ drop i out) i (get_or part at 0) ≡ data_from part (i + 1) ++ drop (i + 1) out
unfolding data_from
stored part out at i h e = rw e (tab_store (λ i. get_or part (place_of i - data_start) 0) i out h)

pub bounds-part-at : goal.bounds-part-at
bounds-part-at c =
    let i = c.loop-byte.byte-index in
    grind (arith, place_linear i, place_within i (length c.args.out.now) (omega arith))

pub loop-byte-preserved : goal.loop-byte-preserved
loop-byte-preserved c =
    let i = c.loop-byte.byte-index in (
      grind (arith, place_linear i),
      rw c.loop-byte.invariant.1 (stored c.args.part.now c.args.out.now _ i (omega arith) (grind (arith, place_linear i))),
    )
