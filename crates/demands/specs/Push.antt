-- Rules 11, "What is promised", 11.3 and 11.7: what a push adds to the log, and what it leaves, on any input and of a sound log.
use Rattle.std.specs.Prelude.{ℕ, zero, suc, ◌+◌, ◌≤◌, ◌<◌, ◌≡◌, List, [], ◌++◌, length, get_or, take, drop}
use Rattle.page.specs.Size.{id_size}
use Rattle.page.specs.Entry.{length_at, id_at}
use Rattle.page.specs.Data.{data_at}
use Rattle.page.specs.Write.{entry_pages}
use Rattle.pushing.specs.Push.{entry_data, Point, bytes_for, wrote, Done, push_of}
use Rattle.catalog.specs.declared.state.State.{State}
use Rattle.demands.specs.Sound.{Start, SoundStore}

-- the pages of the first n entries of a batch
unfoldable pub batch_pages : List ℕ → List ℕ → List ℕ → ℕ → List ℕ
batch_pages ids ends bytes zero = []
batch_pages ids ends bytes (suc n) = batch_pages ids ends bytes n ++ entry_pages (get_or ids n 0) (entry_data ends bytes n)

-- the log that a push leaves
abbrev pub log_after : Done → List ℕ
log_after r = take r.answer.state.length r.store

-- on any input: 4.6 "No byte but those of the pages added changes, and next and the ceiling never move"
pub record Grown (store : List ℕ) (st : State) (ids ends bytes : List ℕ) (r : Done) : Type 0 where
  -- 11.3 "the pages of exactly the entries that it counts": the log after is the log before and then the pages of the entries counted
  pub log : log_after r ≡ take st.length store ++ batch_pages ids ends bytes r.answer.written
  -- no byte after it changes
  pub after : drop r.answer.state.length r.store ≡ drop r.answer.state.length store
  pub size : length r.store ≡ length store
  pub next : r.answer.state.next ≡ st.next
  pub ceiling : r.answer.state.ceiling ≡ st.ceiling

-- a push: the store and the state that it is given, and the batch
pub record Push : Type 0 where
  pub store : List ℕ
  pub state : State
  pub ids : List ℕ
  pub ends : List ℕ
  pub bytes : List ℕ

-- the id of its entry j
abbrev pub id_in : Push → ℕ → ℕ
id_in q j = get_or q.ids j 0

-- the data of its entry j
abbrev pub data_in : Push → ℕ → List ℕ
data_in q j = entry_data q.ends q.bytes j

-- what the push leaves
abbrev pub outcome : Push → Done
outcome q = push_of q.store q.state q.ids q.ends q.bytes

-- 11.3 "entries .. that are counted": entry j is
abbrev pub Counted : Push → ℕ → Type 0
Counted q j = j < (outcome q).answer.written

-- where entry j begins: after the log, and the pages of the entries before it
abbrev pub begins_at : Push → ℕ → ℕ
begins_at q j = q.state.length + length (batch_pages q.ids q.ends q.bytes j)

-- where its pages end
abbrev pub ends_at : Push → ℕ → ℕ
ends_at q j = begins_at q (suc j)

-- the log before the push, and the pages of its first k entries
abbrev pub log_with : Push → ℕ → List ℕ
log_with q k = take q.state.length q.store ++ batch_pages q.ids q.ends q.bytes k

-- what the store has on the pages of entry j after the push
abbrev pub pages_of : Push → ℕ → List ℕ
pages_of q j = take (bytes_for (data_in q j)) (drop (begins_at q j) (outcome q).store)

-- two pushes whose batches differ only in the entries before entry j of one and entry k of the other
pub record AlikeFrom (q r : Push) (j k : ℕ) : Type 0 where
  pub same_id : (i : ℕ) → id_in q (j + i) ≡ id_in r (k + i)
  pub same_data : (i : ℕ) → data_in q (j + i) ≡ data_in r (k + i)

-- 4.4 "What was written before it stays; the entry that is refused changes nothing": where a push stands once its first n entries are written
unfoldable pub after_entries : List ℕ → List ℕ → List ℕ → Point → ℕ → Point
after_entries ids ends bytes p zero = p
after_entries ids ends bytes p (suc n) = wrote (get_or ids n 0) (entry_data ends bytes n) (after_entries ids ends bytes p n)

-- 4.3 "last written becomes its id": the id of the last of the first n entries; what it was before if there is none
abbrev pub last_of : State → List ℕ → ℕ → ℕ
last_of st ids zero = st.last
last_of st ids (suc n) = get_or ids n 0

-- the log holds an entry with that id and that data
pub record Holds (log : List ℕ) (id : ℕ) (d : List ℕ) : Type 0 where
  pub page : ℕ
  pub start : Start log page
  pub has : id_at log page ≡ id
  pub size : length_at log page ≡ id_size + length d
  pub same : data_at log page (length d) ≡ d

-- 11.7 "last written being at or above the last stored id": and the log in the store is sound
pub record Ready (store : List ℕ) (st : State) : Type 0 where
  pub good : SoundStore store st.length
  pub under : (p : ℕ) → Start (take st.length store) p → id_at (take st.length store) p ≤ st.last

-- 11.7 "leaves a sound log that holds every entry it counts"
pub record RightPush (ids ends bytes : List ℕ) (r : Done) : Type 0 where
  pub ready : Ready r.store r.answer.state
  pub held : (k : ℕ) → k < r.answer.written → Holds (log_after r) (get_or ids k 0) (entry_data ends bytes k)
