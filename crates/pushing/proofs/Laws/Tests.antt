-- A push's tests in their order: what each gives, for the whole batch and at an entry's turn. Assumes nothing.
use Prim.Native.Nat.{ℕ, ◌+◌, ◌-◌, ◌≤◌, ◌<◌}
use mathlib.Core.Path.{◌≡◌}
use mathlib.Core.Bool.{true, false}
use mathlib.Core.Logic.{⊎_elim}
use mathlib.Core.List.{List}
use native.Mathlib.Omega.{arith}
use borrow.Author.Tests.{lt-ltb, le-ltb, le-leb, lt-leb}
use lib.ListN.{length}
use Rattle.refusal.proofs.Cases.{side}
use Rattle.page.specs.Size.{id_size, payload_end, data_end}
use Rattle.catalog.specs.Round.{Round, again}
use Rattle.catalog.specs.Bounds.{bad_state}
use Rattle.pushing.specs.Push.{refused, bad_batch, some_large, Point, point, bytes_for, wrote, Done, done, refuse, turn, entries_from, push_of}
use Rattle.catalog.specs.declared.state.State.{State}

-- ---- the whole batch

module _ (store : List ℕ) (st : State) (ids ends bytes : List ℕ) where
  pub refuse_state : bad_state store st.length ≡ true → done (refused 1 0) 0 (point st store) ≡ push_of store st ids ends bytes
  unfolding push_of
  refuse_state a = rw a

  module _ (a : bad_state store st.length ≡ false) where
    pub refuse_batch : bad_batch ids ends bytes ≡ true → done (refused 13 0) 0 (point st store) ≡ push_of store st ids ends bytes
    unfolding push_of
    refuse_batch b = rw (a, b)

    module _ (b : bad_batch ids ends bytes ≡ false) where
      pub refuse_large : some_large ends bytes ≡ true → done (refused 16 0) 0 (point st store) ≡ push_of store st ids ends bytes
      unfolding push_of
      refuse_large c = rw (a, b, c)

      pub entries_in_turn : some_large ends bytes ≡ false → entries_from ids ends bytes (length ids) 0 (point st store) ≡ push_of store st ids ends bytes
      unfolding push_of
      entries_in_turn c = rw (a, b, c)

-- ---- an entry's turn

-- all that an entry's turn may come to
pub data EntrySays (j id : ℕ) (d : List ℕ) (p : Point) : Round Done Point → Type 0 where
  out_of_order : id ≤ p.state.last → EntrySays j id d p (refuse 2 j p)
  too_large : p.state.last < id → data_end ≤ length d → EntrySays j id d p (refuse 3 j p)
  full_store : p.state.last < id → length d < data_end → length p.store - p.state.length < bytes_for d → EntrySays j id d p (refuse 4 j p)
  pages_fit : p.state.last < id → length d < data_end → bytes_for d ≤ length p.store - p.state.length → EntrySays j id d p (again (wrote id d p))

module _ (j id : ℕ) (d : List ℕ) (p : Point) where
  pub turn_order : id ≤ p.state.last → turn j id d p ≡ refuse 2 j p
  unfolding turn
  turn_order a = rw (le-leb id p.state.last a)

  module _ (a : p.state.last < id) where
    pub turn_large : data_end ≤ length d → turn j id d p ≡ refuse 3 j p
    unfolding turn
    turn_large b = rw (lt-leb id p.state.last a, le-leb payload_end (id_size + length d) (omega arith))

    module _ (b : length d < data_end) where
      pub turn_full : length p.store - p.state.length < bytes_for d → turn j id d p ≡ refuse 4 j p
      unfolding turn
      turn_full c = rw (lt-leb id p.state.last a, lt-leb payload_end (id_size + length d) (omega arith), lt-ltb (length p.store - p.state.length) (bytes_for d) c)

      pub turn_write : bytes_for d ≤ length p.store - p.state.length → turn j id d p ≡ again (wrote id d p)
      unfolding turn
      turn_write c = rw (lt-leb id p.state.last a, lt-leb payload_end (id_size + length d) (omega arith), le-ltb (length p.store - p.state.length) (bytes_for d) c)

  pub entry_says : EntrySays j id d p (turn j id d p)
  entry_says = ⊎_elim
      (λ a. ⊎_elim
      (λ b. ⊎_elim
      (λ c. rw (turn_full a b c) (full_store a b c))
      (λ c. rw (turn_write a b c) (pages_fit a b c))
      (side (length p.store - p.state.length) (bytes_for d)))
      (λ b. rw (turn_large a b) (too_large a b))
      (side (length d) data_end))
      (λ a. rw (turn_order a) (out_of_order a))
      (side p.state.last id)
