-- What the loop of `copy_from` keeps: the part of `out` is the first data bytes and then what it was, and `at` is where the last of
-- them ended. Assumes nothing.
use mathlib.Core.Path.{◌≡◌}
use mathlib.Core.List.{◌++◌}
use Prim.Native.Nat.{◌+◌, ◌-◌, ◌/◌}
use lib.ListN.{drop}
use Rattle.page.specs.Size.{first_data, later_payload}
use Rattle.page.specs.Private.{data_from}
use Rattle.page.proofs.copying.copy_from.Given as goal

abbrev pub invariant-loop-byte : goal.invariant-loop-byte
invariant-loop-byte l =
    (l.at ≡ l.byte-index + (l.byte-index + (later_payload - first_data - 1)) / later_payload)
    × (l.byte-items ≡ data_from l.part l.byte-index ++ drop l.byte-index l.initial.byte-items)
