-- `write_page` meets its contract: the head, the data that fits, and zeros. Assumes nothing.
use mathlib.Core.Path.{◌≡◌}
use native.Mathlib.Omega.{arith}
use lib.ListN.{take}
use Rattle.std.proofs.lemmas.List.{take_all}
use Rattle.page.proofs.Filling.{page_put}
use Rattle.page.proofs.writing.write_page.Goals as goal

pub returns : goal.returns
returns c =
    let fits : c.copy_from_slice-2.new.self ≡ take c.min-held.result c.args.bytes.now = rw c.copy_from_slice-2.ensures.after (grind arith) in
    page_put _ _ _ _ c.requires.1 c.requires.0 c.min-held.ensures _ _ _ _ _ _
    (rw c.copy_from_slice.ensures.after (grind (arith, take_all))) fits (omega arith) (omega arith) (omega arith) (c.fill.ensures.after (λ y same. same))
