-- `Page::copy_data` meets its contract: the part from the page is handed on. Assumes nothing.
use mathlib.Core.Path.{◌∙◌, ap}
use mathlib.Core.List.{List}
use Prim.Native.Nat.{ℕ, ◌*◌}
use lib.ListN.{length}
use Rattle.page.specs.Size.{page_size}
use Rattle.page.specs.Data.{data_of, data_at}
use Rattle.page.proofs.Parting.{rest_of}
use Rattle.page.proofs.Page.copy_data.Goals as goal

pub returns : goal.returns
unfolding data_at
returns c =
    let a = c.args in
    c.copy_entry.ensures ∙ ap (λ (p : List ℕ). data_of p (length a.out.now)) (rest_of (a.self.number * page_size) a.self.log.now)
