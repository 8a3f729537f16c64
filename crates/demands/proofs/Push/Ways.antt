-- The ways of a push, to reason by: what holds of each thing that a batch and an entry's turn may come to holds of the push. Assumes nothing.
use Prim.Native.Nat.{ℕ, suc, ◌-◌, ◌≤◌, ◌<◌}
use mathlib.Core.Path.{◌≡◌}
use mathlib.Core.Bool.{true, false}
use mathlib.Core.Logic.{⊎_elim}
use mathlib.Core.List.{List}
use lib.ListN.{length, get_or}
use Rattle.refusal.proofs.Cases.{which, either}
use Rattle.page.specs.Size.{data_end}
use Rattle.catalog.specs.Round.{Round, follow}
use Rattle.catalog.specs.Bounds.{bad_state}
use Rattle.catalog.specs.declared.state.State.{State}
use Rattle.catalog.proofs.Laws.Bounds.{good_state}
use Rattle.pushing.specs.Push.{refused, bad_batch, some_large, Point, point, bytes_for, wrote, Done, done, entry_data, entries_from, push_of}
use Rattle.pushing.proofs.Laws.Tests.{EntrySays, out_of_order, too_large, full_store, pages_fit, entry_says}

-- ---- the whole batch

module _ (store : List ℕ) (st : State) (ids ends bytes : List ℕ) where
  -- what holds where the whole batch is refused, and where its entries are taken in turn, holds of the push
  pub by_batch : (P : Done → Type 0)
      → P (done (refused 1 0) 0 (point st store)) → P (done (refused 13 0) 0 (point st store)) → P (done (refused 16 0) 0 (point st store))
      → (st.length ≤ length store → P (entries_from ids ends bytes (length ids) 0 (point st store)))
      → P (push_of store st ids ends bytes)
  unfolding push_of
  by_batch P state batch large entries = ⊎_elim
      (λ (e : bad_state store st.length ≡ true). rw e state)
      (λ (e : bad_state store st.length ≡ false). rw e (either P (bad_batch ids ends bytes) batch (either P (some_large ends bytes) large (entries (good_state store st.length e).fits.inside))))
      (which (bad_state store st.length))

-- ---- the entries in turn

module _ (ids ends bytes : List ℕ) (n j : ℕ) (p : Point) where
  abbrev id : ℕ
  id = get_or ids j 0

  abbrev d : List ℕ
  d = entry_data ends bytes j

  -- what holds of each thing that entry j's turn may come to holds of the push from entry j on
  pub by_turn : (P : Done → Type 0)
      → (id ≤ p.state.last → P (done (refused 2 0) j p))
      → (p.state.last < id → data_end ≤ length d → P (done (refused 3 0) j p))
      → (p.state.last < id → length d < data_end → length p.store - p.state.length < bytes_for d → P (done (refused 4 0) j p))
      → (p.state.last < id → length d < data_end → bytes_for d ≤ length p.store - p.state.length → P (entries_from ids ends bytes n (suc j) (wrote id d p)))
      → P (entries_from ids ends bytes (suc n) j p)
  unfolding entries_from
  by_turn P two three four on = go _ (entry_says j id d p)
    where
      go : (r : Round Done Point) → EntrySays j id d p r → P (follow (entries_from ids ends bytes n (suc j)) r)
      go r (out_of_order a) = two a
      go r (too_large a b) = three a b
      go r (full_store a b c) = four a b c
      go r (pages_fit a b c) = on a b c
