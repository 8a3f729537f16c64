-- `Batch::new` meets its contract: the counts, and what the search through the spans found. Assumes nothing.
use mathlib.Core.Path.{refl, ◌∙◌}
use Rattle.std.proofs.Common.{rules}
use Rattle.pushing.proofs.Laws.Ends.{bad_counts, batch_says}
use Rattle.pushing.proofs.batch.Batch.new.Goals as goal
use Rattle.pushing.proofs.batch.Batch.new.Goals.{then-ids-ends-via-then-ids-ends, then-ids-ends-via-else-ids-ends+then-is_some_span}

pub returns-then-ids-ends : goal.returns-then-ids-ends
returns-then-ids-ends c = (
  refl,
  elim c.then-ids-ends.branch [
    | then-ids-ends-via-then-ids-ends w ↦ bad_counts _ _ _ w.if-ids-ends.true
    | then-ids-ends-via-else-ids-ends+then-is_some_span w ↦
        batch_says _ _ _ w.if-ids-ends.false (λ j l p. search rules) (λ j l q. search rules) _ w.is_some_span.ensures ∙ w.if-is_some_span.true
  ],
)

pub invariant_of-result : goal.invariant_of-result
invariant_of-result c = record {
  good = batch_says _ _ _ c.if-ids-ends.false (λ j l p. search rules) (λ j l q. search rules) _ c.is_some_span.ensures ∙ c.if-is_some_span.false;
}
