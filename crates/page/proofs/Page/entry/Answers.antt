-- `Page::entry` meets its contract: each return is one case of `Starting`. Assumes nothing.
use mathlib.Core.Path.{ap}
use Prim.Native.Nat.{ℕ, ◌+◌}
use native.Mathlib.Omega.{arith}
use Rattle.page.proofs.Counting.{pages_linear}
use Rattle.page.proofs.Starting.{reads_cut, reads_whole}
use Rattle.page.proofs.Page.entry.Goals as goal

pub overflow_add-after : goal.overflow_add-after
overflow_add-after c = omega (arith, pages_linear c.read-header.result.length)

pub returns-then-count-after : goal.returns-then-count-after
returns-then-count-after c =
    reads_cut _ _ _ c.read-header.ensures.0 (omega arith) _ (ap (λ (k : ℕ). c.args.self.number + k) c.pages_for.ensures) _ (omega arith) (omega arith)

pub returns : goal.returns
returns c =
    reads_whole _ _ _ c.read-header.ensures.0 (omega arith) _ (ap (λ (k : ℕ). c.args.self.number + k) c.pages_for.ensures)
    _ c.read-header.ensures.1 (omega arith) _ (omega arith)
