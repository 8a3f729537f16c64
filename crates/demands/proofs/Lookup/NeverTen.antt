-- 9.2: the start of a scan never answers 10, since the search that it rests on does not. Assumes nothing.
use Prim.Native.Nat.{ℕ}
use mathlib.Core.Path.{◌≡◌, refl, subst}
use mathlib.Core.Bool.{Bool, true, false}
use mathlib.Core.Logic.{⊎_elim}
use mathlib.Core.List.{List}
use native.Mathlib.Omega.{arith}
use lib.ListN.{take}
use Rattle.refusal.proofs.Cases.{order}
use Rattle.page.specs.Mark.{mark_at}
use Rattle.page.specs.Entry.{Starting, short, cut, whole, entry_at}
use Rattle.page.proofs.Marking.{IsBad, mark_cases}
use Rattle.catalog.specs.Bounds.{bad_state}
use Rattle.catalog.specs.Lookup.{Looking, found, absent, refused, Saying, ends, below, above, back, compared, saying_at, find_of}
use Rattle.scanning.specs.Scan.{Beginning, at, refused as unstarted, from_look, from_end, scan_of}
use Rattle.catalog.specs.declared.state.State.{State}
use Rattle.std.specs.declared.ops.Bound.{Bound}
use Rattle.std.specs.declared.ops.Bound.TheVariants.{Unbounded, Included, Excluded}
use Rattle.scanning.specs.declared.range.Range.{Range}
use Rattle.catalog.proofs.Laws.Lookup.Saying.{compare_short, compare_cut, compare_same, compare_below, compare_above, says_start, says_back, says_bad}
use Rattle.catalog.proofs.Laws.Lookup.Positions.{found_by}
use Rattle.scanning.proofs.Laws.Start.{scan_bad, scan_from}

-- ---- the search

abbrev NotTen : Looking → Type 0
NotTen (found position len) = Unit {0}
NotTen (absent position) = Unit {0}
NotTen (refused number value) = number ≡ 10 → ⊥

abbrev PageNotTen : Saying → Type 0
PageNotTen (ends r) = NotTen r
PageNotTen (below stored after) = Unit {0}
PageNotTen (above stored) = Unit {0}
PageNotTen back = Unit {0}

module _ (log : List ℕ) (id s : ℕ) where
  entry_not_ten : (x : Starting) → PageNotTen (compared id s x)
  entry_not_ten short = subst PageNotTen (compare_short id s short refl) (λ e. omega arith)
  entry_not_ten (cut stored) = subst PageNotTen (compare_cut id s (cut stored) stored refl) (λ e. omega arith)
  entry_not_ten (whole stored len after) = ⊎_elim
      (λ q. subst PageNotTen (compare_same id s _ stored len after refl q) tt)
      (⊎_elim
      (λ q. subst PageNotTen (compare_below id s _ stored len after refl q) tt)
      (λ q. subst PageNotTen (compare_above id s _ stored len after refl q) tt))
      (order stored id)

  page_not_ten : PageNotTen (saying_at log id s)
  page_not_ten = ⊎_elim
      (λ (m : mark_at log s ≡ 1). subst PageNotTen (says_start log id s m) (entry_not_ten (entry_at log s)))
      (⊎_elim
      (λ (m : mark_at log s ≡ 0). subst PageNotTen (says_back log id s m) tt)
      (λ (m : IsBad (mark_at log s)). subst PageNotTen (says_bad log id s m) (λ e. omega arith)))
      (mark_cases (mark_at log s))

find_not_ten : (store : List ℕ) (st : State) (id : ℕ) → NotTen (find_of store st id)
find_not_ten store st id = found_by store st id NotTen (λ e. omega arith) (λ s r e. subst PageNotTen e (page_not_ten (take st.length store) id s)) (λ p l. tt)

-- THE LAW
pub find_never_ten : (store : List ℕ) (st : State) (id value : ℕ) → find_of store st id ≡ refused 10 value → ⊥
find_never_ten store st id value e = subst NotTen e (find_not_ten store st id) refl

-- ---- and so the start of a scan

abbrev StartNotTen : Beginning → Type 0
StartNotTen (at cursor) = Unit {0}
StartNotTen (unstarted number value) = number ≡ 10 → ⊥

look_not_ten : (r : Looking) → NotTen r → StartNotTen (from_look r)
look_not_ten (found position len) h = tt
look_not_ten (absent position) h = tt
look_not_ten (refused number value) h = h

end_not_ten : (store : List ℕ) (st : State) (lower : Bound ℕ) → StartNotTen (from_end store st lower)
end_not_ten store st Unbounded = tt
end_not_ten store st (Included id) = look_not_ten (find_of store st id) (find_not_ten store st id)
end_not_ten store st (Excluded id) = look_not_ten (find_of store st id) (find_not_ten store st id)

scan_not_ten : (store : List ℕ) (st : State) (range : Range) → StartNotTen (scan_of store st range)
scan_not_ten store st range = go (bad_state store st.length) refl
  where
    go : (t : Bool) → bad_state store st.length ≡ t → StartNotTen (scan_of store st range)
    go true b = subst StartNotTen (scan_bad store st range b) (λ e. omega arith)
    go false b = subst StartNotTen (scan_from store st range b range.lower refl) (end_not_ten store st range.lower)

pub scan_never_ten : (store : List ℕ) (st : State) (range : Range) (value : ℕ) → scan_of store st range ≡ unstarted 10 value → ⊥
scan_never_ten store st range value e = subst StartNotTen e (scan_not_ten store st range) refl
