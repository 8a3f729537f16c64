-- `Header::read` meets its contract, byte by byte. Assumes nothing.
use mathlib.Core.List.{append-nil}
use native.Mathlib.Omega.{arith}
use lib.Seq.{get_or-take, get_or-drop}
use Rattle.page.specs.Size.{length_size}
use Rattle.page.specs.Bytes.{number_at}
use Rattle.page.proofs.Digits.{number_below}
use Rattle.page.proofs.entry.Header.read.Goals as goal

pub returns : goal.returns
unfolding number_at
returns c = (
  rw (c.from_be_bytes.ensures, c.copy_from_slice.ensures.after) (grind (arith, append-nil, get_or-take, get_or-drop)),
  rw (c.from_be_bytes-2.ensures, c.copy_from_slice-2.ensures.after) (grind (arith, get_or-take, get_or-drop)),
  rw (c.from_be_bytes.ensures, c.copy_from_slice.ensures.after) (grind (arith, append-nil, get_or-take, get_or-drop, number_below c.args.part.now (λ i. omega (arith, c.type_inv.part i)) 1 length_size)),
)
