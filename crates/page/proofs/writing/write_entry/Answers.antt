-- `write_entry` meets its contract: the first page, and the later ones if the data goes on. Assumes nothing.
use Prim.Native.Nat.{◌+◌}
use native.Mathlib.Omega.{arith}
use lib.ListN.{length, length-drop}
use Rattle.page.specs.Size.{id_size}
use Rattle.page.proofs.Counting.{pages_linear}
use Rattle.page.proofs.Parting.{rest_of}
use Rattle.page.proofs.Joining.{one_page, more_pages}
use Rattle.page.proofs.writing.write_entry.Goals as goal

pub write_rest-requires : goal.write_rest-requires
write_rest-requires c =
    simp (rest_of, length-drop) (omega (arith, pages_linear (id_size + length c.args.bytes.now)))

pub returns-then-bytes-gt-FIRST_DATA : goal.returns-then-bytes-gt-FIRST_DATA
returns-then-bytes-gt-FIRST_DATA c =
    more_pages _ _ _ _ _ c.entry_head-head.ensures c.write_page.ensures _ c.write_rest.ensures

pub returns-else-bytes-gt-FIRST_DATA : goal.returns-else-bytes-gt-FIRST_DATA
returns-else-bytes-gt-FIRST_DATA c =
    one_page _ _ _ _ _ c.entry_head-head.ensures c.write_page.ensures c.if-bytes-gt-FIRST_DATA.false
