-- `sequence::words::forget` meets its contract: one more word is cleared, and at the end all. Assumes nothing.
use Rattle.std.proofs.Common.{arith, sym}
use Rattle.sequence.proofs.Clearing.{only_whole, one_word_cleared, all_cleared}
use Rattle.sequence.proofs.words.forget.Goals as goal

pub loop-i-init : goal.loop-i-init
loop-i-init c = (omega arith, sym (only_whole _ _ _ (omega arith)), omega arith)

pub loop-i-preserved : goal.loop-i-preserved
loop-i-preserved c = (
  omega arith,
  one_word_cleared _ _ _ _ _ _ c.loop-i.invariant.1 (omega arith) (omega (arith, c.told-words)) c.loop-i.invariant.2 c.mask.ensures,
  omega arith,
)

pub returns : goal.returns
returns c = all_cleared _ _ _ _ _ c.loop-i.invariant.1 (omega arith) (omega arith)
