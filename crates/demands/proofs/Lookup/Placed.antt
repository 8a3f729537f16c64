-- On any store and state: what is found is a whole entry of the log with that id, and an absent id's position is a page's or the log's end. Assumes nothing.
use Prim.Native.Nat.{ℕ}
use mathlib.Core.Path.{◌≡◌, refl}
use mathlib.Core.List.{List}
use native.Mathlib.Omega.{arith}
use lib.ListN.{take}
use Rattle.page.proofs.Starting.{after_start}
use Rattle.catalog.specs.Lookup.{Looking, found, absent, refused, ends, saying_at, find_of}
use Rattle.catalog.specs.declared.state.State.{State}
use Rattle.catalog.proofs.Laws.Lookup.Rounds.{FoundAt, page_answers}
use Rattle.catalog.proofs.Laws.Lookup.Positions.{found_by}
use Rattle.demands.specs.Lookup.{WholeStored, Placed}

whole_stored : (log : List ℕ) (id position len : ℕ) → FoundAt log id position len → WholeStored log id position len
whole_stored log id position len f = record {
  stored = record {
    page = f.page;
    start = record { inside = omega (arith, after_start log f.page, f.within); marked = f.marked };
    has = f.has;
    at_page = f.at_page;
    size = f.size;
  };
  long = f.long;
  within = f.within;
}

module _ (store : List ℕ) (st : State) (id : ℕ) where
  abbrev log : List ℕ
  log = take st.length store

  -- of an answer with which a page ends the lookup; it never ends there with absent
  page_placed : (s : ℕ) (r : Looking) → saying_at log id s ≡ ends r → Placed log id r
  page_placed s (found position len) e = whole_stored log id position len (page_answers log id s (found position len) e)
  page_placed s (absent position) e = absurd (page_answers log id s (absent position) e)
  page_placed s (refused number value) e = tt

  pub find_placed : Placed log id (find_of store st id)
  find_placed = found_by store st id (Placed log id) tt page_placed (λ page l. record { page = page; at_page = refl; inside = l })
