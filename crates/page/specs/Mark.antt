-- Rules 1, "Pages, the store and the state": the mark of a page.
use Rattle.std.specs.Prelude.{ℕ, List, Result, Ok, Err, eqb, get_or}
use Rattle.refusal.specs.Pick.{pick}
use Rattle.refusal.specs.declared.Refusal.{Refusal}
use Rattle.refusal.specs.declared.Refusal.TheVariants.{BadMark}
use Rattle.page.specs.Size.{page_at}
use Rattle.page.specs.declared.marks.Mark.{Mark}
use Rattle.page.specs.declared.marks.Mark.TheVariants.{Start, Later}

-- 1.2 "Byte 0 of a page is its mark"
unfoldable pub mark_at : List ℕ → ℕ → ℕ
mark_at log p = get_or (page_at log p) 0 0

-- 1.2 "1 for a start .. 0 for any other page; every other mark is bad"
abbrev pub by_mark : {A : Type 0} → ℕ → A → A → A → A
by_mark mark start later bad = pick (eqb mark 1) start (pick (eqb mark 0) later bad)

-- the code's mark for the byte with which page p begins; rules 3, "Refusals", 5: "a mark other than 0 and 1 is read", with the page
abbrev pub mark_of : ℕ → ℕ → Result Mark Refusal
mark_of p mark = by_mark mark (Ok Start) (Ok Later) (Err (BadMark p))
