-- `awirbesh_push` meets its contract. Assumes nothing.
-- The check finds this alone: it stands so that a wrong program is refused at the fact that is false.
use mathlib.Core.Path.{ap, ◌∙◌}
use Rattle.awirbesh.specs.Push.{pushed_numbers}
use Rattle.awirbesh.proofs.writing.awirbesh_push.Goals as goal

pub returns : goal.returns
returns c =
    let e = rw c.into.ensures at c.push.ensures in
    record { value = c.into-2.ensures ∙ ap pushed_numbers e.result_value; store_after = e.store_after }
