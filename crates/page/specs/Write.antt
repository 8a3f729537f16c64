-- Rules 1, "Pages, the store and the state": the pages that an entry's writing leaves.
use Rattle.std.specs.Prelude.{ℕ, zero, suc, ◌-◌, List, [], ◌∷◌, ◌++◌, length, replicate, take, drop}
use Rattle.page.specs.Size.{page_size, first_payload, later_payload, length_size, id_size, pages_for}
use Rattle.page.specs.Bytes.{bytes_of}

-- new bytes over the front of old ones, the rest of which stays
abbrev pub overwritten : List ℕ → List ℕ → List ℕ
overwritten old new = new ++ drop (length new) old

-- 1.8 "every byte after the payload is zero": a page's front, and zeros to its end
unfoldable pub filled : List ℕ → List ℕ
filled front = front ++ replicate (page_size - length front) 0

-- 1.5 "The payload is the id, in 8 bytes, and then the data"
abbrev pub payload_of : ℕ → List ℕ → List ℕ
payload_of id d = bytes_of id_size id ++ d

-- 1.2 "1 for a start"; 1.3 "Bytes 1 to 3 of a start are the length of the entry's payload; from byte 4 on it holds the payload"
unfoldable pub first_page : List ℕ → List ℕ
first_page payload = filled (1 ∷ (bytes_of length_size (length payload) ++ take first_payload payload))

-- 1.4 "a later page, has mark 0 and holds the payload from byte 1 on": of the payload that is left
unfoldable pub later_page : List ℕ → List ℕ
later_page rest = filled (0 ∷ take later_payload rest)

-- k later pages
unfoldable pub later_pages : ℕ → List ℕ → List ℕ
later_pages zero rest = []
later_pages (suc k) rest = later_page rest ++ later_pages k (drop later_payload rest)

-- 1.8 "the entry's pages are given by its id and data alone"
unfoldable pub entry_pages : ℕ → List ℕ → List ℕ
entry_pages id d = first_page (payload_of id d) ++ later_pages (pages_for (length (payload_of id d)) - 1) (drop first_payload (payload_of id d))
