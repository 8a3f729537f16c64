-- The tests before a search, in order: refusal 1, id 0, an id not below next. Assumes nothing.
use Prim.Native.Nat.{ℕ, ◌≤◌, ◌<◌}
use mathlib.Core.Path.{◌≡◌, ap, ◌∙◌}
use mathlib.Core.Bool.{true, false}
use mathlib.Core.List.{List}
use borrow.Author.Tests.{eq-eqb, ne_eqb, le-leb, lt-leb}
use lib.ListN.{length, take}
use Rattle.page.specs.Size.{page_count}
use Rattle.catalog.specs.Bounds.{bad_state}
use Rattle.catalog.specs.Lookup.{absent, refused, all_pages, search, search_of, find_of}
use Rattle.catalog.specs.declared.state.State.{State}
use Rattle.catalog.proofs.Laws.Bounds.{good_state, length_log}

module _ (log : List ℕ) (next id : ℕ) where
  pub search_zero : id ≡ 0 → search_of log next id ≡ absent 0
  unfolding search_of
  search_zero z = rw (eq-eqb id 0 z)

  module _ (some : id ≡ 0 → ⊥) where
    pub search_late : next ≤ id → search_of log next id ≡ absent (length log)
    unfolding search_of
    search_late l = rw (ne_eqb id 0 some, le-leb next id l)

    pub search_all : id < next → search_of log next id ≡ search log id (page_count log) (all_pages log next)
    unfolding search_of
    search_all l = rw (ne_eqb id 0 some, lt-leb next id l)

module _ (store : List ℕ) (st : State) (id : ℕ) where
  pub find_bad : bad_state store st.length ≡ true → find_of store st id ≡ refused 1 0
  unfolding find_of
  find_bad b = rw b

  module _ (b : bad_state store st.length ≡ false) where
    pub find_in : find_of store st id ≡ search_of (take st.length store) st.next id
    unfolding find_of
    find_in = rw b

    pub find_zero : id ≡ 0 → find_of store st id ≡ absent 0
    find_zero z = find_in ∙ search_zero (take st.length store) st.next id z

    pub find_late : (id ≡ 0 → ⊥) → st.next ≤ id → find_of store st id ≡ absent st.length
    find_late some l =
        find_in ∙ search_late (take st.length store) st.next id some l
        ∙ ap absent (length_log store st.length (good_state store st.length b).fits.inside)
