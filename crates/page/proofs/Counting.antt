-- Page counts: the rule in one division, at least 1, and monotone. Assumes nothing.
use mathlib.Core.Path.{◌≡◌}
use Prim.Native.Nat.{ℕ, ◌+◌, ◌-◌, ◌/◌, ◌≤◌}
use native.Mathlib.Omega.{arith}
use native.Mathlib.Decide.{dec_le}
use native.Mathlib.Nat.{lt_of_not-le}
use borrow.Author.Tests.{le-leb, lt-leb}
use Rattle.page.specs.Size.{first_payload, later_payload, pages_for, started, first_data, id_size, pages_for_data}

-- linear, for `omega`; for page's own proofs
pub pages_linear : (n : ℕ) → pages_for n ≡ (n + (later_payload - 1 + (later_payload - first_payload))) / later_payload
unfolding pages_for
pages_linear n = elim (dec_le n first_payload) [ yes h ↦ rw (le-leb n first_payload h) (omega arith) | no h ↦ rw (lt-leb n first_payload (lt_of_not-le h)) (omega arith) ]

pub pages_some : (n : ℕ) → 1 ≤ pages_for n
pages_some n = omega (arith, pages_linear n)

pub pages_monotone : (m n : ℕ) → m ≤ n → pages_for m ≤ pages_for n
pages_monotone m n h = omega (arith, pages_linear m, pages_linear n)

-- the later pages of n data bytes
pub later_count : (n : ℕ) → pages_for_data n - 1 ≡ started later_payload (n - first_data)
later_count n = omega (arith, pages_linear (id_size + n))
