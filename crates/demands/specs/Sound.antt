-- Rules 2, "Sound logs": a sound log, and which ids it stores.
use Rattle.std.specs.Prelude.{ℕ, ◌*◌, ◌%◌, ◌≤◌, ◌<◌, ◌≡◌, ◌⊎◌, List, length, take}
use Rattle.page.specs.Size.{page_size, id_size, page_count}
use Rattle.page.specs.Mark.{mark_at}
use Rattle.page.specs.Entry.{length_at, id_at, data_length_at, after_at}
use Rattle.catalog.specs.Bounds.{Fits}

-- page p is a start
pub record Start (log : List ℕ) (p : ℕ) : Type 0 where
  pub inside : p < page_count log
  pub marked : mark_at log p ≡ 1

-- of an empty log every line holds by itself
pub record Sound (log : List ℕ) : Type 0 where
  -- 2.1 "Its length is a whole number of pages"
  pub pages : length log % page_size ≡ 0
  -- 2.2 "Every page has mark 0 or 1"
  pub marks : (p : ℕ) → p < page_count log → (mark_at log p ≡ 0) ⊎ (mark_at log p ≡ 1)
  -- 2.3 "Page 0, if there is one, is a start"
  pub first : 0 < page_count log → mark_at log 0 ≡ 1
  -- 2.4 "The payload of each start is 8 bytes or more"
  pub long : (p : ℕ) → Start log p → id_size ≤ length_at log p
  -- 2.5 "The pages of each entry end before the next start"
  pub apart : (p q : ℕ) → Start log p → Start log q → p < q → after_at log p ≤ q
  -- 2.6 "They end within the log"
  pub within : (p : ℕ) → Start log p → after_at log p ≤ page_count log
  -- 2.7 "From each start to the next the id is greater"
  pub rising : (p q : ℕ) → Start log p → Start log q → p < q → id_at log p < id_at log q
  -- 2.8 "Every id is at least 1"
  pub from_one : (p : ℕ) → Start log p → 1 ≤ id_at log p

-- a sound log in its store: 11.2, what the sound check's answer says
pub record SoundStore (store : List ℕ) (n : ℕ) : Type 0 where
  pub fits : Fits store n
  pub sound : Sound (take n store)

-- 2.9 "An id is stored if a start of the log has it": at this position, with so many data bytes
pub record Stored (log : List ℕ) (id position len : ℕ) : Type 0 where
  pub page : ℕ
  pub start : Start log page
  pub has : id_at log page ≡ id
  pub at_page : position ≡ page * page_size
  pub size : len ≡ data_length_at log page

-- 11.5 "absent at the first entry with a greater id, or at length": and no entry has that id
pub record Missing (log : List ℕ) (id position : ℕ) : Type 0 where
  pub page : ℕ
  pub at_page : position ≡ page * page_size
  pub edge : (page ≡ page_count log) ⊎ Start log page
  pub below : (p : ℕ) → Start log p → p < page → id_at log p < id
  pub above : (p : ℕ) → Start log p → page ≤ p → id < id_at log p

-- page p starts the last entry stored
pub record Last (log : List ℕ) (p : ℕ) : Type 0 where
  pub start : Start log p
  pub none : (q : ℕ) → Start log q → q ≤ p

-- 11.8 "the id of the last entry stored, 0 if there is none"
pub data LastStored (log : List ℕ) (id : ℕ) : Type 0 where
  nothing_stored : ((p : ℕ) → Start log p → ⊥) → id ≡ 0 → LastStored log id
  last_entry : (p : ℕ) → Last log p → id_at log p ≡ id → LastStored log id
