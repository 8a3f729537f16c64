-- `sequence::IdSequence::note` meets its contract: an id that is not refused is the definition's last case. Assumes nothing.
use Rattle.std.proofs.Common.{arith}
use Rattle.sequence.proofs.Notes.{apart, note_of_lem}
use Rattle.sequence.proofs.IdSequence.note.Goals as goal

-- The check finds this alone: it stands so that a wrong program is refused at the fact that is false.
pub overflow_add-id : goal.overflow_add-id
overflow_add-id c = omega arith

pub returns : goal.returns
returns c =
    let t = c.truncate.ensures in
    let e =
    apart
    (note_of_lem c.args.self c.args.words.now c.args.id (omega arith) (omega arith) (λ e. absurd (omega arith))
    _ _ _ _ _ _ _ _ (omega arith) (omega arith) (omega arith)
    c.remaining.ensures c.forget.ensures c.mark.ensures (omega (arith, c.max.ensures)) t.start_and_words) in
    record { result_value = rw t.after_kept e.0; words_after = e.1 }
