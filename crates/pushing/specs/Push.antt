-- Rules 4, "Push": what a push of a batch answers and leaves in the store, entry by entry.
use Rattle.std.specs.Prelude.{ℕ, zero, suc, ◌+◌, ◌-◌, ◌*◌, Bool, false, not, ◌||◌, List, ◌++◌, Option, None, Some, ltb, leb, eqb, length, get_or, take, drop}
use Rattle.refusal.specs.Pick.{pick}
use Rattle.refusal.specs.Refusal.{number_of, value_of}
use Rattle.refusal.specs.declared.Refusal.{Refusal}
use Rattle.page.specs.Size.{page_size, id_size, payload_end, data_end, pages_for_data}
use Rattle.page.specs.Write.{overwritten, entry_pages}
use Rattle.catalog.specs.Round.{Round, stop, again, follow}
use Rattle.catalog.specs.Bounds.{bad_state}
use Rattle.catalog.specs.State.{moved_to}
use Rattle.catalog.specs.declared.state.State.{State}
use Rattle.pushing.specs.declared.Pushed.{Pushed}

-- ---- the answer

-- the reason for which a push ended: none, or a refusal's number and value
pub data Why : Type 0 where
  none : Why
  refused : (number value : ℕ) → Why

-- 4.5 "The answer is the reason .. the count of entries written .. and the state"
pub record Pushing : Type 0 where
  pub reason : Why
  pub written : ℕ
  pub state : State

abbrev pub pushing : Why → ℕ → State → Pushing
pushing why n st = record { reason = why; written = n; state = st }

-- the rules' reason for each case of the code's
abbrev pub paper_reason : Option Refusal → Why
paper_reason None = none
paper_reason (Some r) = refused (number_of r) (value_of r)

-- the rules' answer for the code's
abbrev pub paper_pushed : Pushed → Pushing
paper_pushed r = pushing (paper_reason r.reason) r.written r.state

-- ---- the batch

-- 4.1 "the end before its own, the first at 0"
abbrev pub before : List ℕ → ℕ → ℕ
before ends zero = 0
before ends (suc j) = get_or ends j 0

-- 4.1 "The data of an entry begins at the end before its own .. and stops below its own end"
unfoldable pub entry_data : List ℕ → List ℕ → ℕ → List ℕ
entry_data ends bytes j = take (get_or ends j 0 - before ends j) (drop (before ends j) bytes)

-- some number below n passes the test
unfoldable pub some : (ℕ → Bool) → ℕ → Bool
some test zero = false
some test (suc n) = some test n || test n

-- 3.1 "an end is below the one before, or an end is beyond the buffer": end j
unfoldable pub bad_end : List ℕ → List ℕ → ℕ → Bool
bad_end ends bytes j = ltb (get_or ends j 0) (before ends j) || ltb (length bytes) (get_or ends j 0)

-- 13: 3.1 "there are not as many ids as ends, an end is below the one before, or an end is beyond the buffer"
unfoldable pub bad_batch : List ℕ → List ℕ → List ℕ → Bool
bad_batch ids ends bytes = not (eqb (length ids) (length ends)) || some (bad_end ends bytes) (length ends)

-- 3.1 "an entry's data is longer than 16,777,208 bytes": entry j
unfoldable pub large_data : List ℕ → List ℕ → ℕ → Bool
large_data ends bytes j = ltb data_end (length (entry_data ends bytes j))

-- 16: of some entry of the batch
unfoldable pub some_large : List ℕ → List ℕ → Bool
some_large ends bytes = some (large_data ends bytes) (length ends)

-- ---- the entries in turn

-- where a push stands: the state and the store
pub record Point : Type 0 where
  pub state : State
  pub store : List ℕ

abbrev pub point : State → List ℕ → Point
point st store = record { state = st; store = store }

-- the log as it stands: 1.1 "the first `length` bytes"
abbrev pub log_at : Point → List ℕ
log_at p = take p.state.length p.store

-- the bytes of an entry's pages
abbrev pub bytes_for : List ℕ → ℕ
bytes_for d = pages_for_data (length d) * page_size

-- 4.3 "its pages are written from length on, length grows by them, and last written becomes its id"
unfoldable pub wrote : ℕ → List ℕ → Point → Point
wrote id d p = point (moved_to p.state (p.state.length + bytes_for d) id) (log_at p ++ overwritten (drop p.state.length p.store) (entry_pages id d))

-- what a push leaves: its answer, and the store
pub record Done : Type 0 where
  pub answer : Pushing
  pub store : List ℕ

abbrev pub done : Why → ℕ → Point → Done
done why n p = record { answer = pushing why n p.state; store = p.store }

-- 4.4 "The first refusal ends the push. What was written before it stays", j entries
abbrev pub refuse : ℕ → ℕ → Point → Round Done Point
refuse number j p = stop (done (refused number 0) j p)

-- 4.3 "2, then 3, then 4; else its pages are written": entry j
unfoldable pub turn : ℕ → ℕ → List ℕ → Point → Round Done Point
turn j id d p =
    -- 3.1 "an entry's id is at or below last written"
    pick (leb id p.state.last) (refuse 2 j p)
    -- 3.1 "an entry's id and data reach 2^24 bytes"
    (pick (leb payload_end (id_size + length d)) (refuse 3 j p)
    -- 3.1 "after length the store has fewer bytes than the entry's pages take"
    (pick (ltb (length p.store - p.state.length) (bytes_for d)) (refuse 4 j p)
    (again (wrote id d p))))

-- the n entries from entry j on
unfoldable pub entries_from : List ℕ → List ℕ → List ℕ → ℕ → ℕ → Point → Done
entries_from ids ends bytes zero j p = done none j p
entries_from ids ends bytes (suc n) j p = follow (entries_from ids ends bytes n (suc j)) (turn j (get_or ids j 0) (entry_data ends bytes j) p)

-- 4.2 "For the whole batch: 1, then 13, then 16. Each of them changes nothing"; 4.3 "Then entry after entry"
unfoldable pub push_of : List ℕ → State → List ℕ → List ℕ → List ℕ → Done
push_of store st ids ends bytes =
    pick (bad_state store st.length) (done (refused 1 0) 0 (point st store))
    (pick (bad_batch ids ends bytes) (done (refused 13 0) 0 (point st store))
    (pick (some_large ends bytes) (done (refused 16 0) 0 (point st store))
    (entries_from ids ends bytes (length ids) 0 (point st store))))
