-- What the contracts of private functions cite beside the rules' own definitions.
use Rattle.std.specs.Prelude.{ℕ, ◌-◌, List, ◌∷◌, ◌++◌, get_or}
use Rattle.page.specs.Tab.{tab}
use Rattle.page.specs.Size.{length_size, id_size, data_start}
use Rattle.page.specs.Bytes.{bytes_of}
use Rattle.page.specs.Data.{place_of}

-- n data bytes of an entry, of the part of the log from where its data begins
unfoldable pub data_from : List ℕ → ℕ → List ℕ
data_from part n = tab (λ i. get_or part (place_of i - data_start) 0) n

-- the bytes of an entry before its data: mark, length and id
abbrev pub head_of : ℕ → ℕ → List ℕ
head_of len id = 1 ∷ (bytes_of length_size len ++ bytes_of id_size id)
