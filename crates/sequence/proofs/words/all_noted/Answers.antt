-- `sequence::words::all_noted` meets its contract: a mask keeps the first bits. Assumes nothing.
use Rattle.std.proofs.Common.{min}
use Rattle.std.specs.Int.Bits.{and_mask}
use Rattle.sequence.proofs.words.all_noted.Goals as goal

pub returns : goal.returns
returns c = rw (c.mask-m.ensures, and_mask c.args.word (min 64 c.args.n))
