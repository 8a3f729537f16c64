-- Rules 11, "What is promised", 11.6: what the steps of a scan hand over on a sound log.
use Rattle.std.specs.Prelude.{ℕ, ◌≤◌, ◌<◌, ◌≡◌, true, length, take}
use mathlib.Core.List.{List, [], ◌∷◌, Memᴰ}
use Rattle.page.specs.Entry.{id_at, data_length_at}
use Rattle.page.specs.Data.{data_at}
use Rattle.page.specs.Write.{overwritten}
use Rattle.demands.specs.Sound.{Start}
use Rattle.scanning.specs.Range.{holds_of}
use Rattle.catalog.specs.Output.{with_output}
use Rattle.scanning.specs.Step.{entry, end, step_of}
use Rattle.scanning.specs.Scan.{Beginning, at}
use Rattle.catalog.specs.declared.state.State.{State}
use Rattle.std.specs.declared.ops.Bound.{Bound}
use Rattle.std.specs.declared.ops.Bound.TheVariants.{Unbounded, Included, Excluded}
use Rattle.scanning.specs.declared.range.Range.{Range}

-- an entry as a scan hands it over
pub record Item : Type 0 where
  pub id : ℕ
  pub bytes : List ℕ

-- the entry that starts at page p
unfoldable pub item_at : List ℕ → ℕ → Item
item_at log p = record { id = id_at log p; bytes = data_at log p (data_length_at log p) }

-- 11.6 "The steps of a scan, with enough output and the log unchanged, hand over": with any output of m bytes or more at each step, exactly these entries in this order from a cursor on, then the end with the cursor at length
pub data Hands (store : List ℕ) (st : State) (range : Range) (m : ℕ) : ℕ → List Item → Type 0 where
  no_more : (cursor : ℕ)
      → ((out : List ℕ) → step_of store st range cursor out ≡ with_output (end st.length) out)
      → Hands store st range m cursor []
  one_more : (cursor id after : ℕ) (bytes : List ℕ) (rest : List Item)
      → ((out : List ℕ) → m ≤ length out → step_of store st range cursor out ≡ with_output (entry id (length bytes) after) (overwritten out bytes))
      → Hands store st range m after rest
      → Hands store st range m cursor (record { id = id; bytes = bytes } ∷ rest)

-- 11.6 "with enough output": m bytes hold the data of each entry of the range
abbrev pub Enough : List ℕ → Range → ℕ → Type 0
Enough log range m = (p : ℕ) → Start log p → holds_of range (id_at log p) ≡ true → data_length_at log p ≤ m

-- 11.6 "ids rising": each above all before it, so that none comes twice
unfoldable pub Rising : List Item → Type 0
Rising [] = Unit {0}
Rising (x ∷ l) = ((y : Item) → Memᴰ y l → x.id < y.id) × Rising l

-- the item is an entry stored in the log with its id in the range
pub record OfRange (log : List ℕ) (range : Range) (x : Item) : Type 0 where
  pub page : ℕ
  pub start : Start log page
  pub inside : holds_of range (id_at log page) ≡ true
  pub is : x ≡ item_at log page

-- 11.6 "every stored entry of the range once, ids rising"
pub record Listing (log : List ℕ) (range : Range) (l : List Item) : Type 0 where
  pub every : (p : ℕ) → Start log p → holds_of range (id_at log p) ≡ true → Memᴰ (item_at log p) l
  pub only : (x : Item) → Memᴰ x l → OfRange log range x
  pub rising : Rising l

-- 11.6 "the lower end is 1 or more and not below next"
abbrev pub Beyond : Bound ℕ → ℕ → Type 0
Beyond Unbounded next = ⊥
Beyond (Included id) next = (1 ≤ id) × (next ≤ id)
Beyond (Excluded id) next = (1 ≤ id) × (next ≤ id)

-- what a start and the steps from its cursor give
pub record Scans (store : List ℕ) (st : State) (range : Range) (m : ℕ) (r : Beginning) : Type 0 where
  pub cursor : ℕ
  pub started : r ≡ at cursor
  pub items : List Item
  pub hands : Hands store st range m cursor items
  pub listing : (Beyond range.lower st.next → ⊥) → Listing (take st.length store) range items
  pub nothing : Beyond range.lower st.next → items ≡ []
