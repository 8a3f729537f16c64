-- What the loop of `is_some_span` keeps: the test holds of no span passed so far. Assumes nothing.
use Rattle.std.proofs.Common.{◌≡◌, ℕ, ◌<◌, false, get_or}
use Rattle.pushing.specs.Push.{before}
use Rattle.pushing.proofs.batch.is_some_span.Given as goal

abbrev pub invariant-loop-end : goal.invariant-loop-end
invariant-loop-end g l =
    (l.from ≡ before l.ends l.end-index)
    × ((j : ℕ) → j < l.end-index → goal.F-post g l.test (before l.ends j) (get_or l.ends j 0) false)
