-- Each entry takes one page.
use Rattle.std.proofs.Common.{arith}
use Rattle.page.proofs.Counting.{pages_linear}
use Rattle.worked.proofs.pages.hello_and_none.Goals as goal

pub write_entry-requires : goal.write_entry-requires
write_entry-requires g c = (omega (arith, pages_linear 13), omega arith)

pub write_entry-requires-2 : goal.write_entry-requires-2
write_entry-requires-2 g c = (omega (arith, pages_linear 8), omega arith)
