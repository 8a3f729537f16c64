-- 9.4, 9.5: a step comes to no entry out of the range, on any log, so that 10 is of an entry of the range alone. Assumes nothing.
use Prim.Native.Nat.{ℕ}
use mathlib.Core.Path.{◌≡◌, subst}
use mathlib.Core.Bool.{true}
use mathlib.Core.List.{List}
use Rattle.page.specs.Entry.{id_at}
use Rattle.scanning.specs.Range.{holds_of}
use Rattle.scanning.specs.Step.{reached, forward_from}
use Rattle.scanning.specs.declared.range.Range.{Range}
use Rattle.scanning.proofs.Laws.Forward.{reached_entry}

pub reached_inside : (log : List ℕ) (range : Range) (from page id len after : ℕ) → reached page id len after ≡ forward_from log range from → holds_of range (id_at log page) ≡ true
reached_inside log range from page id len after e =
    let r = reached_entry log range from page id len after e in
    subst (λ (x : ℕ). holds_of range x ≡ true) r.id_is r.inside
