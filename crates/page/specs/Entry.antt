-- Rules 1, "Pages, the store and the state": what a start says of its entry; and Rules 3, "Refusals", 6 and 7: whether it is whole.
use Rattle.std.specs.Prelude.{ℕ, ◌+◌, ◌-◌, List, Result, Ok, Err, ltb}
use Rattle.refusal.specs.Pick.{pick}
use Rattle.page.specs.Size.{length_size, id_size, payload_start, pages_for, page_count, page_at}
use Rattle.page.specs.Bytes.{number_at}
use Rattle.refusal.specs.declared.Refusal.{Refusal}
use Rattle.refusal.specs.declared.Refusal.TheVariants.{ShortEntry, CutEntry}
use Rattle.page.specs.declared.entry.Whole as entire
use Rattle.page.specs.declared.entry.Entry.{Entry}
use Rattle.page.specs.declared.entry.Entry.TheVariants.{Short, Cut, Whole}

-- 1.3 "Bytes 1 to 3 of a start are the length of the entry's payload"
unfoldable pub length_at : List ℕ → ℕ → ℕ
length_at log p = number_at (page_at log p) 1 length_size

-- 1.5 "The payload is the id, in 8 bytes"
unfoldable pub id_at : List ℕ → ℕ → ℕ
id_at log p = number_at (page_at log p) payload_start id_size

-- the length of the data: 1.5 "and then the data"
abbrev pub data_length_at : List ℕ → ℕ → ℕ
data_length_at log s = length_at log s - id_size

-- the page after the entry that starts at page s
abbrev pub after_at : List ℕ → ℕ → ℕ
after_at log s = s + pages_for (length_at log s)

-- what starts at a page: too short for an id, an entry with its id that is cut, or a whole one with its id, data length and the page after it
pub data Starting : Type 0 where
  short : Starting
  cut : (id : ℕ) → Starting
  whole : (id len after : ℕ) → Starting

-- 3.1 "a start has a payload length under 8", 3.1 "the pages of a start go past the log's last whole page"
unfoldable pub entry_at : List ℕ → ℕ → Starting
entry_at log s =
    pick (ltb (length_at log s) id_size) short
    (pick (ltb (page_count log) (after_at log s)) (cut (id_at log s))
    (whole (id_at log s) (data_length_at log s) (after_at log s)))

-- the rules' answer for each case of the code's
abbrev pub paper_entry : Entry → Starting
paper_entry Short = short
paper_entry (Cut id) = cut id
paper_entry (Whole w) = whole w.id w.length w.after

-- the code's whole entry for what starts at page s, else refusal 6, "a start has a payload length under 8", or 7, "the pages of a start go past the log's last whole page"
abbrev pub whole_of : ℕ → Starting → Result entire.Whole Refusal
whole_of s short = Err (ShortEntry s)
whole_of s (cut id) = Err (CutEntry s)
whole_of s (whole id len after) = Ok (record { id = id; length = len; after = after })
