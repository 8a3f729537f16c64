-- Rules 9, "Scan": a step.
use Rattle.std.specs.Prelude.{ℕ, zero, suc, ◌+◌, ◌*◌, ◌/◌, ◌||◌, List, Result, Ok, Err, ltb, length, take}
use Rattle.refusal.specs.Pick.{pick}
use Rattle.refusal.specs.Refusal.{number_of, value_of}
use Rattle.refusal.specs.declared.Refusal.{Refusal}
use Rattle.page.specs.Size.{page_size, page_count}
use Rattle.page.specs.Mark.{mark_at, by_mark}
use Rattle.page.specs.Entry.{Starting, short, cut, whole, entry_at}
use Rattle.catalog.specs.Round.{Round, stop, again, follow}
use Rattle.catalog.specs.Output.{WithOutput, with_output, hand_over}
use Rattle.catalog.specs.Bounds.{bad_state, bad_cursor}
use Rattle.scanning.specs.Range.{holds_of}
use Rattle.catalog.specs.declared.state.State.{State}
use Rattle.scanning.specs.declared.range.Range.{Range}
use Rattle.scanning.specs.declared.stepping.Stepped.{Stepped}
use Rattle.scanning.specs.declared.stepping.Stepped.TheVariants.{Entry, End}

-- what a step answers: an entry with its id, data length and the cursor after it, the end with its cursor, or a refusal
pub data Stepping : Type 0 where
  entry : (id len cursor : ℕ) → Stepping
  end : (cursor : ℕ) → Stepping
  refused : (number value : ℕ) → Stepping

-- the rules' answer for each case of the code's
abbrev pub paper_stepped : Result Stepped Refusal → Stepping
paper_stepped (Ok (Entry id len cursor)) = entry id len cursor
paper_stepped (Ok (End cursor)) = end cursor
paper_stepped (Err r) = refused (number_of r) (value_of r)

-- ---- forward to an entry of the range

-- where a step comes to: an entry of the range with its page, id, data length and the page after it, the end with its cursor, or a fault
pub data Reaching : Type 0 where
  reached : (page id len after : ℕ) → Reaching
  ended : (cursor : ℕ) → Reaching
  faulty : (number value : ℕ) → Reaching

-- 9.4 "at a start 6, then 7. A start whose id is not in the range is passed with its pages"
unfoldable pub step_start : Range → ℕ → Starting → Round Reaching ℕ
step_start range p short = stop (faulty 6 p)
step_start range p (cut id) = stop (faulty 7 p)
step_start range p (whole id len after) = pick (holds_of range id) (stop (reached p id len after)) (again after)

-- 9.4 "5 at a bad mark; a page with mark 0 is passed"
unfoldable pub step_page : List ℕ → Range → ℕ → Round Reaching ℕ
step_page log range p = by_mark (mark_at log p) (step_start range p (entry_at log p)) (again (p + 1)) (stop (faulty 5 p))

-- 9.6 "At the log's end the answer is the end, with the cursor at length". Each round goes on by a page at least, so that there are no more of them than pages
unfoldable pub forward : List ℕ → Range → ℕ → ℕ → Reaching
forward log range zero p = ended (length log)
forward log range (suc k) p = pick (ltb p (page_count log)) (follow (forward log range k) (step_page log range p)) (ended (length log))

-- 9.4 "From the cursor's page the step goes forward"
unfoldable pub forward_from : List ℕ → Range → ℕ → Reaching
forward_from log range p = forward log range (page_count log) p

-- ---- what it comes to handed over

-- 9.5 "handed over as a lookup does, with 10 as there; the answer is its id, the length of its data and the cursor after the entry"
unfoldable pub hand_reached : List ℕ → List ℕ → Reaching → WithOutput Stepping
hand_reached log out (reached page id len after) = hand_over refused (entry id len (after * page_size)) log page len out
hand_reached log out (ended cursor) = with_output (end cursor) out
hand_reached log out (faulty number value) = with_output (refused number value) out

-- forward, and what that comes to handed over
unfoldable pub advance_of : List ℕ → Range → ℕ → List ℕ → WithOutput Stepping
advance_of log range p out = hand_reached log out (forward_from log range p)

-- 9.3 "1 first, for the cursor too"
unfoldable pub step_of : List ℕ → State → Range → ℕ → List ℕ → WithOutput Stepping
step_of store st range cursor out =
    pick (bad_state store st.length || bad_cursor st.length cursor) (with_output (refused 1 0) out)
    (advance_of (take st.length store) range (cursor / page_size) out)
