-- How an entry's data is handed over: 10, or the data at the front of the output. Assumes nothing.
use Prim.Native.Nat.{ℕ, ◌≤◌, ◌<◌}
use mathlib.Core.Path.{◌≡◌}
use mathlib.Core.List.{List}
use borrow.Author.Tests.{lt-ltb, le-ltb}
use lib.ListN.{length}
use Rattle.page.specs.Data.{copied}
use Rattle.catalog.specs.Output.{with_output, hand_over}

module _ {A : Type 0} (refuse : ℕ → ℕ → A) (r : A) (log : List ℕ) (s n : ℕ) (out : List ℕ) where
  pub hand_small : length out < n → hand_over refuse r log s n out ≡ with_output (refuse 10 n) out
  unfolding hand_over
  hand_small h = rw (lt-ltb (length out) n h)

  pub hand_copied : n ≤ length out → hand_over refuse r log s n out ≡ with_output r (copied log s n out)
  unfolding hand_over
  hand_copied h = rw (le-ltb (length out) n h)
