-- On any store and state: what holds of every answer of a search, and that what is found is a whole entry of the log. Assumes nothing.
use Prim.Native.Nat.{ℕ, ◌*◌, ◌%◌, ◌<◌, ◌≤◌}
use mathlib.Core.Path.{◌≡◌, refl, sym, subst}
use mathlib.Core.Bool.{Bool, true, false}
use mathlib.Core.Logic.{⊎_elim}
use mathlib.Core.List.{List}
use native.Mathlib.Omega.{arith}
use lib.ListN.{length, take}
use Rattle.refusal.proofs.Cases.{side}
use Rattle.page.specs.Size.{page_size, page_count}
use Rattle.catalog.specs.Bounds.{bad_state}
use Rattle.catalog.specs.Lookup.{Looking, found, absent, refused, ends, saying_at, all_pages, search_of, find_of}
use Rattle.catalog.specs.declared.state.State.{State}
use Rattle.catalog.proofs.Laws.Bounds.{good_state, length_log}
use Rattle.catalog.proofs.Laws.Lookup.Tests.{search_zero, search_late, search_all, find_bad, find_in}
use Rattle.catalog.proofs.Laws.Lookup.Rounds.{FoundAt, search_by, page_answers}

-- P holds of every answer, if it holds of absent at every page and at the end, and of those with which a page ends the lookup
module _ (log : List ℕ) (id : ℕ) (P : Looking → Type 0) (of-page : (s : ℕ) (r : Looking) → saying_at log id s ≡ ends r → P r)
    (of_end : (page : ℕ) → page ≤ page_count log → P (absent (page * page_size))) where
  searched_by : (next : ℕ) → length log % page_size ≡ 0 → P (search_of log next id)
  searched_by next pages = ⊎_elim some none (side 0 id)
    where
      none : id ≤ 0 → P (search_of log next id)
      none z = subst P (sym (search_zero log next id (omega arith))) (of_end 0 (omega arith))

      some : 0 < id → P (search_of log next id)
      some p =
          let e : length log ≡ page_count log * page_size = omega arith in
          ⊎_elim
          (λ l. subst P (sym (search_all log next id (λ e. omega arith) l)) (search_by log id P of-page of_end (page_count log) (all_pages log next) (record { lower = p; upper = l }) (omega arith)))
          (λ l. subst P (sym (search_late log next id (λ e. omega arith) l)) (rw e (of_end (page_count log) (omega arith))))
          (side id next)

-- and of every answer of `find`, if it holds of refusal 1 too
pub found_by : (store : List ℕ) (st : State) (id : ℕ) (P : Looking → Type 0) → P (refused 1 0)
    → ((s : ℕ) (r : Looking) → saying_at (take st.length store) id s ≡ ends r → P r)
    → ((page : ℕ) → page ≤ page_count (take st.length store) → P (absent (page * page_size))) → P (find_of store st id)
found_by store st id P of-state of-page of_end = go (bad_state store st.length) refl
  where
    go : (t : Bool) → bad_state store st.length ≡ t → P (find_of store st id)
    go true b = subst P (sym (find_bad store st id b)) of-state
    go false b = let g = good_state store st.length b in subst P (sym (find_in store st id b)) (searched_by (take st.length store) id P of-page of_end st.next (rw (length_log store st.length g.fits.inside) g.whole))

-- what is found is a whole entry
abbrev FoundWhole : List ℕ → ℕ → Looking → Type 0
FoundWhole log id (found position len) = FoundAt log id position len
FoundWhole log id (absent position) = Unit {0}
FoundWhole log id (refused number value) = Unit {0}

page_whole : (log : List ℕ) (id s : ℕ) (r : Looking) → saying_at log id s ≡ ends r → FoundWhole log id r
page_whole log id s (found position len) e = page_answers log id s (found position len) e
page_whole log id s (absent position) e = tt
page_whole log id s (refused number value) e = tt

pub found_whole : (store : List ℕ) (st : State) (id position len : ℕ) → find_of store st id ≡ found position len → FoundAt (take st.length store) id position len
found_whole store st id position len f =
    rw f at (found_by store st id (FoundWhole (take st.length store) id) tt (page_whole (take st.length store) id) (λ p l. tt))
