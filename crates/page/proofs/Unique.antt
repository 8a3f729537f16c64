-- No two entries read have the same answer by the rules. Assumes nothing.
use mathlib.Core.Path.{◌≡◌, refl}
use Rattle.page.specs.Entry.{Starting, short, cut, whole, paper_entry}
use Rattle.page.specs.declared.entry.Entry.{Entry}
use Rattle.page.specs.declared.entry.Entry.TheVariants.{Short, Cut, Whole}

from_paper : Starting → Entry
from_paper short = Short
from_paper (cut id) = Cut id
from_paper (whole id len after) = Whole (record { id = id; length = len; after = after })

back : (x : Entry) → from_paper (paper_entry x) ≡ x
unfolding from_paper
back Short = refl
back (Cut id) = refl
back (Whole w) = refl

pub entry_unique : (x y : Entry) → paper_entry x ≡ paper_entry y → x ≡ y
entry_unique x y e = cc (back x, back y)
