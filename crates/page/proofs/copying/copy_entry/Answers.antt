-- `copy_entry` meets its contract: the part from where the data begins is handed on. Assumes nothing.
use mathlib.Core.Path.{◌∙◌}
use Prim.Native.Nat.{◌+◌}
use native.Mathlib.Omega.{arith}
use lib.ListN.{length}
use Rattle.page.proofs.Counting.{pages_some}
use Rattle.page.proofs.Placing.{data_from_lem}
use Rattle.page.specs.Size.{id_size}
use Rattle.page.proofs.copying.copy_entry.Goals as goal

pub returns : goal.returns
returns c =
    let a = c.args in
    c.copy_from.ensures ∙ data_from_lem a.part.now (length a.out.now) _ (omega (arith, pages_some (id_size + length a.out.now))) (omega arith)
