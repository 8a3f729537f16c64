-- Rules 8, "Lookup", step by step.
use Rattle.std.specs.Prelude.{ℕ, zero, suc, ◌+◌, ◌-◌, ◌*◌, ◌/◌, max, List, ltb, leb, eqb, length, take, Result, Ok, Err}
use Rattle.refusal.specs.Pick.{pick}
use Rattle.refusal.specs.Refusal.{number_of, value_of}
use Rattle.refusal.specs.declared.Refusal.{Refusal}
use Rattle.page.specs.Size.{page_size, page_count}
use Rattle.page.specs.Mark.{mark_at, by_mark}
use Rattle.page.specs.Entry.{Starting, short, cut, whole, entry_at}
use Rattle.catalog.specs.Round.{Round, stop, again, follow}
use Rattle.catalog.specs.Output.{WithOutput, with_output, hand_over}
use Rattle.catalog.specs.Bounds.{bad_state}
use Rattle.catalog.specs.Guess.{offset_of}
use Rattle.catalog.specs.declared.state.State.{State}
use Rattle.catalog.specs.declared.searching.Look.{Look}
use Rattle.catalog.specs.declared.searching.Look.TheVariants.{Found, Absent}

-- what a lookup answers: found with position and data length, absent with a position, or a refusal
pub data Looking : Type 0 where
  found : (position len : ℕ) → Looking
  absent : (position : ℕ) → Looking
  refused : (number value : ℕ) → Looking

-- the rules' answer for each case of the code's
abbrev pub paper_look : Result Look Refusal → Looking
paper_look (Ok (Found position len)) = found position len
paper_look (Ok (Absent position)) = absent position
paper_look (Err r) = refused (number_of r) (value_of r)

-- ---- one page

-- what a page says to the walk back: the lookup ends, the entry that starts there lies below or above the id, or none starts there
pub data Saying : Type 0 where
  ends : Looking → Saying
  below : (stored after : ℕ) → Saying
  above : (stored : ℕ) → Saying
  back : Saying

-- 8.5 "At a start s: 6, then 7 .. found, at position s * 1,024, with the length of its data"
unfoldable pub compared : ℕ → ℕ → Starting → Saying
compared id s short = ends (refused 6 s)
compared id s (cut stored) = ends (refused 7 s)
compared id s (whole stored len after) =
    pick (eqb stored id) (ends (found (s * page_size) len))
    (pick (ltb stored id) (below stored after) (above stored))

-- 8.4 "until it meets a start; 5 at a bad mark"
unfoldable pub saying_at : List ℕ → ℕ → ℕ → Saying
saying_at log id s = by_mark (mark_at log s) (compared id s (entry_at log s)) back (ends (refused 5 s))

-- ---- one round

-- 8.2 "a window, the pages from lo to below hi, and two ids a and b"
pub record Window : Type 0 where
  pub lo : ℕ
  pub hi : ℕ
  pub a : ℕ
  pub b : ℕ

abbrev pub window : ℕ → ℕ → ℕ → ℕ → Window
window lo hi a b = record { lo = lo; hi = hi; a = a; b = b }

-- 8.6 "If its id is smaller: a becomes it, and lo becomes the page after the entry, or g + 1 if that is more. If greater: b becomes it, and hi becomes s":
-- page s was met on the way back from the guess g, and `rest` is the way back from there
unfoldable pub turned : Window → ℕ → ℕ → Round Looking Window → Saying → Round Looking Window
turned w g s rest (ends r) = stop r
turned w g s rest (below stored after) = again (window (max (g + 1) after) w.hi stored w.b)
turned w g s rest (above stored) = again (window w.lo s w.a stored)
turned w g s rest back = rest

-- 8.4 "walks back, to lo at the lowest, until it meets a start .. If it meets none, lo becomes g + 1": from page lo + d
unfoldable pub walk : List ℕ → ℕ → Window → ℕ → ℕ → Round Looking Window
walk log id w g zero = turned w g w.lo (again (window (g + 1) w.hi w.a w.b)) (saying_at log id w.lo)
walk log id w g (suc d) = turned w g (w.lo + suc d) (walk log id w g d) (saying_at log id (w.lo + suc d))

-- one round, from the guess g
abbrev pub round_from : List ℕ → ℕ → Window → ℕ → Round Looking Window
round_from log id w g = walk log id w g (g - w.lo)

-- ---- the rounds

-- 8.3 "with x = id - a and y = b - a .. and W = hi - lo, it guesses page g = lo +"
abbrev pub guess_in : ℕ → Window → ℕ
guess_in id w = w.lo + offset_of (id - w.a) (w.b - w.a) (w.hi - w.lo)

-- 8.3 "While lo is below hi, a round"; 8.7 "Once lo is not below hi: absent at hi * 1,024". Each round takes a page at least from the window, so that there are no more rounds than pages
unfoldable pub search : List ℕ → ℕ → ℕ → Window → Looking
search log id zero w = absent (w.hi * page_size)
search log id (suc k) w =
    pick (ltb w.lo w.hi)
    (follow (search log id k) (round_from log id w (guess_in id w)))
    (absent (w.hi * page_size))

-- 8.2 "At first the window is all pages, a is 0 and b is next"
abbrev pub all_pages : List ℕ → ℕ → Window
all_pages log next = window 0 (page_count log) 0 next

-- 8.1 "Id 0 is absent at 0. From next on every id is absent at length"; 8.2 "Else the search"
unfoldable pub search_of : List ℕ → ℕ → ℕ → Looking
search_of log next id =
    pick (eqb id 0) (absent 0)
    (pick (leb next id) (absent (length log))
    (search log id (page_count log) (all_pages log next)))

-- 8.1 "1 first"; 8.8 "`find` answers that and copies nothing"
unfoldable pub find_of : List ℕ → State → ℕ → Looking
find_of store st id = pick (bad_state store st.length) (refused 1 0) (search_of (take st.length store) st.next id)

-- ---- 8.8 "`lookup` then hands over what is found"

-- found with the data handed over; else the output stays
unfoldable pub hand_found : List ℕ → List ℕ → Looking → WithOutput Looking
hand_found log out (found position len) = hand_over refused (found position len) log (position / page_size) len out
hand_found log out (absent position) = with_output (absent position) out
hand_found log out (refused number value) = with_output (refused number value) out

-- a lookup's answer and output
unfoldable pub lookup_of : List ℕ → State → ℕ → List ℕ → WithOutput Looking
lookup_of store st id out = hand_found (take st.length store) out (find_of store st id)
