-- Rules 7, "Sound check", step by step.
use Rattle.std.specs.Prelude.{ℕ, zero, suc, ◌+◌, ◌-◌, ◌%◌, List, ltb, leb, eqb, length, take, Result, Ok, Err}
use Rattle.refusal.specs.Pick.{pick}
use Rattle.refusal.specs.Refusal.{number_of, value_of}
use Rattle.refusal.specs.declared.Refusal.{Refusal}
use Rattle.page.specs.Size.{page_size, page_count}
use Rattle.page.specs.Mark.{mark_at, by_mark}
use Rattle.page.specs.Entry.{Starting, short, cut, whole, entry_at}
use Rattle.catalog.specs.Round.{Round, stop, again, follow}
use Rattle.catalog.specs.Bounds.{too_long}

-- what the sound check answers: sound, or a refusal
pub data Checking : Type 0 where
  sound : Checking
  refused : (number value : ℕ) → Checking

-- the rules' answer for each case of the code's
abbrev pub paper_checked : Result Unit Refusal → Checking
paper_checked (Ok _) = sound
paper_checked (Err r) = refused (number_of r) (value_of r)

-- where the check goes on: at a page, with the last id before it
pub record Checkpoint : Type 0 where
  pub page : ℕ
  pub last : ℕ

abbrev pub checkpoint : ℕ → ℕ → Checkpoint
checkpoint page last = record { page = page; last = last }

-- 7.4 "the entry's other pages in turn: one with mark 1 is 14, one with a bad mark 5": k pages from page p on, of the entry with that id
unfoldable pub later_marks : List ℕ → ℕ → ℕ → ℕ → Round Checking Checkpoint
later_marks log id zero p = again (checkpoint p id)
later_marks log id (suc k) p = by_mark (mark_at log p) (stop (refused 14 p)) (later_marks log id k (p + 1)) (stop (refused 5 p))

-- 7.3 "At a start: 6; 7; 15 if the id is not above that of the entry before": on page p, where the ids before it end with `last`
unfoldable pub check_start : List ℕ → ℕ → ℕ → Starting → Round Checking Checkpoint
check_start log p last short = stop (refused 6 p)
check_start log p last (cut id) = stop (refused 7 p)
check_start log p last (whole id len after) = pick (leb id last) (stop (refused 15 p)) (later_marks log id (after - (p + 1)) (p + 1))

-- 7.2 "5 at a bad mark; page 0 with mark 0 is 8, any other page with mark 0 is passed"
unfoldable pub check_page : List ℕ → ℕ → ℕ → Round Checking Checkpoint
check_page log p last =
    by_mark (mark_at log p)
    (check_start log p last (entry_at log p))
    (pick (eqb p 0) (stop (refused 8 0)) (again (checkpoint (p + 1) last)))
    (stop (refused 5 p))

-- 7.5 "7 if there is an excess, naming the page that is not whole; otherwise sound"
unfoldable pub check_end : List ℕ → Checking
check_end log = pick (eqb (length log % page_size) 0) sound (refused 7 (page_count log))

-- 7.2 "Page after page", from a checkpoint on: each round passes a page at least, so that there are no more rounds than pages
unfoldable pub check_from : List ℕ → ℕ → Checkpoint → Checking
check_from log zero at = check_end log
check_from log (suc k) at = pick (ltb at.page (page_count log)) (follow (check_from log k) (check_page log at.page at.last)) (check_end log)

-- every page; 7.3 "which counts as 0 for the first entry"
abbrev pub check_log : List ℕ → Checking
check_log log = check_from log (page_count log) (checkpoint 0 0)

-- 7.1 "a store and a length in bytes, as recovery is, with the same refusal 1"
unfoldable pub check_of : List ℕ → ℕ → Checking
check_of store n = pick (too_long store n) (refused 1 0) (check_log (take n store))
