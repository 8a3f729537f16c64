-- Rules 9, "Scan": where a scan starts.
use Rattle.std.specs.Prelude.{ℕ, List, Result, Ok, Err}
use Rattle.std.specs.declared.ops.Bound.{Bound}
use Rattle.std.specs.declared.ops.Bound.TheVariants.{Unbounded, Included, Excluded}
use Rattle.refusal.specs.Pick.{pick}
use Rattle.refusal.specs.Refusal.{number_of, value_of}
use Rattle.refusal.specs.declared.Refusal.{Refusal}
use Rattle.catalog.specs.Bounds.{bad_state}
use Rattle.catalog.specs.Lookup.{Looking, found, absent, refused as unfound, find_of}
use Rattle.catalog.specs.declared.state.State.{State}
use Rattle.scanning.specs.declared.range.Range.{Range}

-- what starting a scan answers: the cursor of its first step, or a refusal
pub data Beginning : Type 0 where
  at : (cursor : ℕ) → Beginning
  refused : (number value : ℕ) → Beginning

-- the rules' answer for each case of the code's
abbrev pub paper_started : Result ℕ Refusal → Beginning
paper_started (Ok cursor) = at cursor
paper_started (Err r) = refused (number_of r) (value_of r)

-- 9.2 "the position at which a find of its id comes out, found or absent; what the find refuses is refused"
abbrev pub from_look : Looking → Beginning
from_look (found position len) = at position
from_look (absent position) = at position
from_look (unfound number value) = refused number value

-- 9.2 "With an open lower end the cursor is 0, else the position at which a find of its id comes out"
abbrev pub from_end : List ℕ → State → Bound ℕ → Beginning
from_end store st Unbounded = at 0
from_end store st (Included id) = from_look (find_of store st id)
from_end store st (Excluded id) = from_look (find_of store st id)

-- 9.2 "1 first"
unfoldable pub scan_of : List ℕ → State → Range → Beginning
scan_of store st range = pick (bad_state store st.length) (refused 1 0) (from_end store st range.lower)
