-- Where a scan starts: refusal 1 first, then by the lower end, at the position that a search gives. Assumes nothing.
use Prim.Native.Nat.{ℕ}
use mathlib.Core.Path.{◌≡◌}
use mathlib.Core.Bool.{true, false}
use mathlib.Core.List.{List}
use Rattle.catalog.specs.Bounds.{bad_state}
use Rattle.catalog.specs.Lookup.{absent, find_of}
use Rattle.scanning.specs.Scan.{at, refused, from_look, from_end, scan_of}
use Rattle.catalog.specs.declared.state.State.{State}
use Rattle.std.specs.declared.ops.Bound.{Bound}
use Rattle.scanning.specs.declared.range.Range.{Range}

pub place_absent : (store : List ℕ) (st : State) (id cursor position : ℕ)
    → cursor ≡ position → absent position ≡ find_of store st id → at cursor ≡ from_look (find_of store st id)
place_absent store st id cursor position c e = rw (c, ← e)

module _ (store : List ℕ) (st : State) (range : Range) where
  pub scan_bad : bad_state store st.length ≡ true → refused 1 0 ≡ scan_of store st range
  unfolding scan_of
  scan_bad a = rw a

  pub scan_from : bad_state store st.length ≡ false → (lower : Bound ℕ) → range.lower ≡ lower → from_end store st lower ≡ scan_of store st range
  unfolding scan_of
  scan_from a lower e = rw (a, e)
