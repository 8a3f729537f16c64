-- Rules 1, "Pages, the store and the state": the page's own numbers, and how many pages there are.
use Rattle.std.specs.Prelude.{ℕ, ◌+◌, ◌-◌, ◌*◌, ◌/◌, ◌^◌, List, leb, length, take, drop}
use Rattle.refusal.specs.Pick.{pick}

-- ---- bytes of a page

-- 1.1 "pages of 1,024 bytes"
abbrev pub page_size : ℕ
page_size = 1024

-- 1.3 "it holds the payload, up to 1,020 bytes of it"
abbrev pub first_payload : ℕ
first_payload = 1020

-- 1.4 "holds the payload from byte 1 on, up to 1,023 bytes of it"
abbrev pub later_payload : ℕ
later_payload = 1023

-- 1.3 "Bytes 1 to 3"
abbrev pub length_size : ℕ
length_size = 3

-- 1.5 "the id, in 8 bytes"
abbrev pub id_size : ℕ
id_size = 8

-- 1.3 "from byte 4 on": after the mark and the length
abbrev pub payload_start : ℕ
payload_start = 1 + length_size

-- 1.5 "from byte 12 of the start on": after the id
abbrev pub data_start : ℕ
data_start = payload_start + id_size

-- the data bytes on an entry's first page
abbrev pub first_data : ℕ
first_data = first_payload - id_size

-- ---- the largest payload and data: one below these

-- the first payload length that its bytes do not hold
abbrev pub payload_end : ℕ
payload_end = 256 ^ length_size

-- the data bytes of that payload
abbrev pub data_end : ℕ
data_end = payload_end - id_size

-- ---- pages

-- how many runs of `size` bytes n bytes start
abbrev pub started : ℕ → ℕ → ℕ
started size n = (n + (size - 1)) / size

-- 1.6 "A payload of up to 1,020 bytes takes 1 page; a longer one takes 1 page more for each 1,023 bytes begun beyond those"
unfoldable pub pages_for : ℕ → ℕ
pages_for n = pick (leb n first_payload) 1 (1 + started later_payload (n - first_payload))

-- the pages of n data bytes: 1.5 "The payload is the id .. and then the data"
abbrev pub pages_for_data : ℕ → ℕ
pages_for_data n = pages_for (id_size + n)

-- the whole pages of a log
abbrev pub page_count : List ℕ → ℕ
page_count log = length log / page_size

-- page p of a log: 1.1 "page p at position p * 1,024"
unfoldable pub page_at : List ℕ → ℕ → List ℕ
page_at log p = take page_size (drop (p * page_size) log)
