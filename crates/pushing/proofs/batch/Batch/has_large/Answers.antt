-- `has_large` meets its contract: what the search through the spans found. Assumes nothing.
use mathlib.Core.Path.{sym}
use Rattle.std.proofs.Common.{rules}
use Rattle.pushing.proofs.Laws.Ends.{large_says}
use Rattle.pushing.proofs.batch.Batch.has_large.Goals as goal

pub returns : goal.returns
returns c = sym (large_says _ _ _ c.args.self.good (λ j l p. search rules) (λ j l q. search rules) _ c.is_some_span.ensures)
