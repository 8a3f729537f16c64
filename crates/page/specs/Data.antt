-- Rules 1, "Pages, the store and the state": where an entry's data lies.
use Rattle.std.specs.Prelude.{ℕ, zero, suc, ◌+◌, ◌-◌, ◌*◌, ◌/◌, ◌%◌, List, ◌++◌, ltb, get_or, drop}
use Rattle.refusal.specs.Pick.{pick}
use Rattle.page.specs.Tab.{tab}
use Rattle.page.specs.Size.{page_size, later_payload, data_start, first_data}

-- 1.5 "the data lies from byte 12 of the start on, and from byte 1 on each later page": data byte i, counted from the entry's first byte
unfoldable pub place_of : ℕ → ℕ
place_of i =
    pick (ltb i first_data) (data_start + i)
    ((1 + (i - first_data) / later_payload) * page_size + (1 + (i - first_data) % later_payload))

-- n data bytes of the entry whose pages begin a part of the log
unfoldable pub data_of : List ℕ → ℕ → List ℕ
data_of part n = tab (λ i. get_or part (place_of i) 0) n

-- n data bytes of the entry that starts at page s
unfoldable pub data_at : List ℕ → ℕ → ℕ → List ℕ
data_at log s n = data_of (drop (s * page_size) log) n

-- 8.8 "put to its front and the rest of it stays": the output after n data bytes of the entry that starts at page s
abbrev pub copied : List ℕ → ℕ → ℕ → List ℕ → List ℕ
copied log s n out = data_at log s n ++ drop n out

-- ---- the run of an entry's data on one of its pages, page 0 being its first

-- the data byte with which the run begins
unfoldable pub run_from : ℕ → ℕ
run_from zero = 0
run_from (suc j) = first_data + j * later_payload

-- the byte of the page at which it begins
unfoldable pub run_at : ℕ → ℕ
run_at zero = data_start
run_at (suc j) = 1
