-- `sequence::words::mark` meets its contract: one shifted is a power of two, and `|` with it marks. Assumes nothing.
use Rattle.std.proofs.Common.{◌%◌, ◌^◌}
use Rattle.std.proofs.Math.Nat.{one-mul, mod-eq_of_lt, mod-lt}
use Rattle.std.proofs.Math.Dec.{lit<}
use Rattle.std.proofs.Math.Pow.{pow-lt}
use Rattle.sequence.proofs.Bits.{or_marked}
use Rattle.sequence.proofs.words.mark.Goals as goal

pub returns : goal.returns
returns c =
    rw (one-mul (2 ^ (c.args.offset % 64)), mod-eq_of_lt (pow-lt (mod-lt c.args.offset {m = 64} (lit< tt)))) (or_marked c.args.word (c.args.offset % 64))
