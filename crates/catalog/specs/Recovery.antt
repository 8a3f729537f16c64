-- Rules 6, "Recovery", step by step.
use Rattle.std.specs.Prelude.{ℕ, zero, suc, ◌-◌, ◌*◌, ◌%◌, List, eqb, length, take, Result, Ok, Err}
use Rattle.refusal.specs.Pick.{pick}
use Rattle.refusal.specs.Refusal.{number_of, value_of}
use Rattle.refusal.specs.declared.Refusal.{Refusal}
use Rattle.page.specs.Size.{page_size, page_count}
use Rattle.page.specs.Mark.{mark_at, by_mark}
use Rattle.page.specs.Entry.{Starting, short, cut, whole, entry_at}
use Rattle.catalog.specs.Bounds.{too_long}
use Rattle.catalog.specs.State.{fresh, recovered_at, resumed_above, top_id}
use Rattle.catalog.specs.declared.state.State.{State}
use Rattle.catalog.specs.declared.recovery.Recovered.{Recovered}

-- what recovery answers: a state, the size of the excess and the count of pages dropped, or a refusal
pub data Recovering : Type 0 where
  recovered : (state : State) (excess dropped : ℕ) → Recovering
  refused : (number value : ℕ) → Recovering

-- the rules' answer for each case of the code's
abbrev pub paper_recovered : Result Recovered Refusal → Recovering
paper_recovered (Ok r) = recovered r.state r.excess r.dropped
paper_recovered (Err r) = refused (number_of r) (value_of r)

-- 6.6 "9 if its id is 2^64-1. The state is the length that is left, the id": of n bytes that are left
unfoldable pub at_whole : ℕ → ℕ → ℕ → ℕ → Recovering
at_whole n id excess dropped = pick (eqb id top_id) (refused 9 0) (recovered (recovered_at n id) excess dropped)

-- 6.5 "At that start: 6. If its entry is cut .. it goes on at 6.3 with those before it": at page s, `before` being what those give
unfoldable pub at_start : ℕ → ℕ → ℕ → ℕ → Recovering → Starting → Recovering
at_start n excess dropped s before short = refused 6 s
at_start n excess dropped s before (cut id) = before
at_start n excess dropped s before (whole id len after) = at_whole n id excess dropped

-- the first p pages of a log
abbrev pub first_pages : List ℕ → ℕ → List ℕ
first_pages log p = take (p * page_size) log

-- 6.3 "If no page is left: the fresh state", 6.4 "it goes down .. until it meets a start: 5 at a bad mark, 8 if it comes to page 0 and that has mark 0":
-- from the page before p on; the log is what is left of so many pages
unfoldable pub walk_back : ℕ → ℕ → List ℕ → ℕ → Recovering
walk_back pages excess log zero = pick (eqb (page_count log) 0) (recovered fresh excess pages) (refused 8 0)
walk_back pages excess log (suc p) =
    by_mark (mark_at log p)
    (at_start (length log) excess (pages - page_count log) p (walk_back pages excess (first_pages log p) p) (entry_at log p))
    (walk_back pages excess log p)
    (refused 5 p)

-- 6.2 "The bytes after the last whole page, the excess"
abbrev pub excess_of : ℕ → ℕ
excess_of n = n % page_size

-- 6.2 "are cut off": the whole pages before them
abbrev pub whole_pages : List ℕ → ℕ → List ℕ
whole_pages store n = take (n - excess_of n) store

-- 6.4 "from the last page left"
unfoldable pub recover_log : List ℕ → ℕ → Recovering
recover_log log excess = walk_back (page_count log) excess log (page_count log)

-- 6.8 "next becomes the larger of itself and the stored ceiling, and the ceiling is next": where there is a state
abbrev pub above_stored : ℕ → Recovering → Recovering
above_stored stored (recovered st excess dropped) = recovered (resumed_above stored st) excess dropped
above_stored stored (refused number value) = refused number value

-- 6.1 "1 if the length is above the store's size, or the store is too long"; 6.2 "the excess, are cut off, and their count is reported"
unfoldable pub recover_of : List ℕ → ℕ → ℕ → Recovering
recover_of store n stored = pick (too_long store n) (refused 1 0) (above_stored stored (recover_log (whole_pages store n) (excess_of n)))
