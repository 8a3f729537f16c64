-- `entry_head` meets its contract, byte by byte: the mark, and the digits of the length and the id, high byte first. Assumes nothing.
-- The check finds this alone: it stands so that a wrong program is refused at the fact that is false.
use mathlib.Core.Path.{refl}
use native.Mathlib.Omega.{arith}
use Rattle.page.specs.Bytes.{bytes_of}
use Rattle.page.proofs.Listing.{cons_same}
use Rattle.page.proofs.writing.entry_head.Goals as goal

pub returns : goal.returns
unfolding bytes_of
returns c =
    rw (c.copy_from_slice.ensures.after, c.copy_from_slice-2.ensures.after, c.to_be_bytes.ensures, c.to_be_bytes-2.ensures)
    (cons_same (omega arith)
    (cons_same (omega arith) (cons_same (omega arith) (cons_same (omega arith)
    (cons_same (omega arith) (cons_same (omega arith) (cons_same (omega arith) (cons_same (omega arith)
    (cons_same (omega arith) (cons_same (omega arith) (cons_same (omega arith) (cons_same (omega arith) refl))))))))))))
