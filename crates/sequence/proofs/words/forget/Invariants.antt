-- What the loop of `sequence::words::forget` keeps: the first i words are cleared, and so many bits of word i stay. Assumes nothing.
use Rattle.std.proofs.Common.{◌≡◌, ◌-◌, ◌*◌, ◌≤◌, ◌/◌, max}
use Rattle.sequence.specs.Window.{only}
use Rattle.sequence.proofs.words.forget.Given as goal

abbrev pub invariant-loop-i : goal.invariant-loop-i
invariant-loop-i l = (l.i ≤ max l.count (l.from / 64)) × (l.words ≡ only l.from l.i l.fn.words) × (l.bits ≡ l.from - 64 * l.i)
