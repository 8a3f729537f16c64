-- What the loop of `write_entries` keeps: what is left to do is what was to do. Assumes nothing.
use Rattle.std.specs.Iterator.Adapters.{enumerate_source, enumerate_count, zip_first, zip_second}
use Rattle.std.specs.Slice.Iter.{iter_rest}
use Rattle.pushing.proofs.Laws.Entries.{EntriesLoop}
use Rattle.pushing.proofs.write_entries.Given as goal

abbrev pub invariant-loop-written : goal.invariant-loop-written
invariant-loop-written l =
    let pairs = enumerate_source l.written-iterator in
    EntriesLoop l.initial.store l.initial.state l.batch.ids.now l.batch.ends.now l.batch.bytes.now l.store l.state l.from
    (enumerate_count l.written-iterator) (iter_rest (zip_first pairs)) (iter_rest (zip_second pairs))
