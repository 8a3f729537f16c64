-- Rules 1, "Pages, the store and the state": 1.1 "A number in several bytes has its highest byte first".
use Rattle.std.specs.Prelude.{ℕ, zero, suc, ◌+◌, ◌*◌, ◌/◌, ◌%◌, List, [], ◌∷◌, ◌++◌, get_or}

-- the number in the k bytes from place a on
unfoldable pub number_at : List ℕ → ℕ → ℕ → ℕ
number_at bytes a zero = 0
number_at bytes a (suc k) = number_at bytes a k * 256 + get_or bytes (a + k) 0

-- a number as k bytes
unfoldable pub bytes_of : ℕ → ℕ → List ℕ
bytes_of zero n = []
bytes_of (suc k) n = bytes_of k (n / 256) ++ (n % 256 ∷ [])
