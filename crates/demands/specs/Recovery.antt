-- Rules 11, "What is promised", 11.4 and 11.7: what recovery gives of a sound log, whole, cut or cut in a push; and a recovery that drops nothing.
use Rattle.std.specs.Prelude.{ℕ, zero, suc, ◌+◌, ◌-◌, ◌*◌, ◌/◌, ◌≤◌, ◌<◌, ◌≡◌, ◌⊎◌, ◌↔◌, List, eqb, length, take}
use Rattle.refusal.specs.Pick.{pick}
use Rattle.page.specs.Size.{page_size, page_count}
use Rattle.page.specs.Mark.{mark_at, by_mark}
use Rattle.page.specs.Entry.{Starting, short, cut, whole, id_at, after_at, entry_at}
use Rattle.catalog.specs.Bounds.{too_long}
use Rattle.catalog.specs.State.{fresh, recovered_at, resumed_above, top_id}
use Rattle.catalog.specs.Recovery.{Recovering, recovered, refused, at_whole, first_pages, excess_of, whole_pages, above_stored}
use Rattle.catalog.specs.declared.state.State.{State}
use Rattle.demands.specs.Sound.{Start, Sound, Last, LastStored}
use Rattle.demands.specs.Push.{Push, outcome, Counted, ends_at, log_with, last_of}

-- 11.4 "the log's length, its last stored id, 0 if there is none, and for next and the ceiling one more, or the stored ceiling if that is greater, with the excess; 9 exactly if that id is 2^64-1":
-- of a log, with a stored ceiling, after so many pages were dropped
pub data RightRecovery (log : List ℕ) (stored excess dropped : ℕ) : Recovering → Type 0 where
  empty : length log ≡ 0 → RightRecovery log stored excess dropped (recovered (resumed_above stored fresh) excess dropped)
  used_up : (p : ℕ) → Last log p → id_at log p ≡ top_id → RightRecovery log stored excess dropped (refused 9 0)
  goes_on : (p : ℕ) → Last log p → (id_at log p ≡ top_id → ⊥)
      → RightRecovery log stored excess dropped (recovered (resumed_above stored (recovered_at (length log) (id_at log p))) excess dropped)

-- ---- a cut

-- of a log of which the first m pages are there, so many are left
pub record Left (log : List ℕ) (m left : ℕ) : Type 0 where
  pub most : left ≤ m
  -- 11.4 "exactly the entries whose pages all lie before the cut"
  pub exact : (p : ℕ) → Start log p → (p < left) ↔ (after_at log p ≤ m)
  -- 11.4 "no page but those of a cut entry was dropped"
  pub edge : (left ≡ m) ⊎ Start log left

-- 11.4 "Recovery of any fewer bytes of the log .. gives the same of what is left": of n bytes
pub record RightCut (log : List ℕ) (n stored : ℕ) (r : Recovering) : Type 0 where
  pub left : ℕ
  pub is_left : Left log (n / page_size) left
  pub sound : Sound (first_pages log left)
  pub right : RightRecovery (first_pages log left) stored (excess_of n) (n / page_size - left) r

-- ---- a cut in a push

-- 11.7 "the log is then cut at any byte from its length before the push on": at byte n; the store then, and what recovery answers there
pub record Torn (q : Push) (n stored : ℕ) (store : List ℕ) (r : Recovering) : Type 0 where
  pub kept : ℕ
  pub counted : kept ≤ (outcome q).answer.written
  -- 11.7 "exactly those entries of the batch whose pages all lie before the cut"
  pub exact : (j : ℕ) → Counted q j → (j < kept) ↔ (ends_at q j ≤ n)
  -- 11.7 "what recovery finds is the log before and the pages of" those
  pub log : take (length (log_with q kept)) store ≡ log_with q kept
  pub sound : Sound (log_with q kept)
  -- 11.7 "last written is the id of the last of them, or what it was"
  pub last : LastStored (log_with q kept) (last_of q.state q.ids kept)
  -- 11.7 "excess and dropped pages add up to the cut"
  pub dropped : ℕ
  pub adds_up : length (log_with q kept) + dropped * page_size + excess_of n ≡ n
  -- 11.7 "next and the ceiling are one more, or the stored ceiling if that is greater .. unless that id is 2^64-1 and 9 is answered"
  pub is : r ≡ above_stored stored (at_whole (length (log_with q kept)) (last_of q.state q.ids kept) (excess_of n) dropped)

-- ---- which pages are read

-- 6.7 "only the pages from that start on are read": the entry at page p ends before the next start, and within the log
pub record Apart (log : List ℕ) (p : ℕ) : Type 0 where
  pub start : Start log p
  pub before : (q : ℕ) → Start log q → p < q → after_at log p ≤ q
  pub within : after_at log p ≤ page_count log

-- the entry at which recovery ended with a state
pub record EndedAt (log : List ℕ) (st : State) : Type 0 where
  pub page : ℕ
  pub apart : Apart log page
  pub has : id_at log page ≡ st.last

-- ---- a recovery that drops nothing: 7 at a cut entry, and all else as rules 6 has it

-- at the start on page s of a log of n bytes
unfoldable pub strict_at : ℕ → ℕ → ℕ → Starting → Recovering
strict_at n excess s short = refused 6 s
strict_at n excess s (cut id) = refused 7 s
strict_at n excess s (whole id len after) = at_whole n id excess 0

-- from the page before p on
unfoldable pub strict_back : ℕ → List ℕ → ℕ → Recovering
strict_back excess log zero = pick (eqb (page_count log) 0) (recovered fresh excess 0) (refused 8 0)
strict_back excess log (suc p) = by_mark (mark_at log p) (strict_at (length log) excess p (entry_at log p)) (strict_back excess log p) (refused 5 p)

-- of so many bytes of a store, with a stored ceiling
unfoldable pub strict_of : List ℕ → ℕ → ℕ → Recovering
strict_of store n stored = pick (too_long store n) (refused 1 0) (above_stored stored (strict_back (excess_of n) (whole_pages store n) (page_count (whole_pages store n))))
