-- `sequence::IdSequence::truncate` meets its contract: each way out of the loop is an end of the rounds. Assumes nothing.
use Rattle.std.proofs.Common.{arith}
use Rattle.sequence.proofs.Rounds.{first_word, going_end, going_stop, going_more}
use Rattle.sequence.proofs.IdSequence.truncate.Goals as goal

pub returns-then-not-all_noted-clause-start_and_words : goal.returns-then-not-all_noted-clause-start_and_words
returns-then-not-all_noted-clause-start_and_words c =
    let inv = c.loop-ids.invariant in
    going_stop inv.1 (first_word inv.1 _ _ c.if-not-all_noted.ensures (omega arith) (omega arith))

pub loop-ids-preserved : goal.loop-ids-preserved
loop-ids-preserved c =
    let inv = c.loop-ids.invariant in
    (inv.0, rw c.shift.ensures (going_more inv.1 (omega arith) (first_word inv.1 _ _ c.if-not-all_noted.ensures (omega arith) (omega arith))))

pub returns-clause-start_and_words : goal.returns-clause-start_and_words
returns-clause-start_and_words c = going_end c.loop-ids.invariant.1 (omega arith)
