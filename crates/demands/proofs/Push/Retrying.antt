-- An entry that 3 or 4 refuses keeps its id: it can be pushed again, and is written once it is small enough and has room. Assumes nothing.
use Prim.Native.Nat.{ℕ, zero, suc, ◌-◌, ◌≤◌, ◌<◌}
use mathlib.Core.Path.{◌≡◌, ap, sym, ◌∙◌}
use mathlib.Core.Bool.{false}
use mathlib.Core.Logic.{◌⊎◌, ⊎_elim}
use mathlib.Core.List.{List, [], ◌∷◌}
use native.Mathlib.Nat.{sub-zero}
use native.Mathlib.Omega.{arith}
use borrow.Author.Tests.{le-ltb}
use lib.ListN.{length, get_or}
use lib.Seq.{take-length}
use Rattle.page.specs.Size.{data_end}
use Rattle.catalog.specs.Bounds.{Good}
use Rattle.catalog.specs.Round.{Round, follow}
use Rattle.catalog.specs.declared.state.State.{State}
use Rattle.catalog.proofs.Laws.Bounds.{not_bad}
use Rattle.pushing.specs.Push.{none, refused, entry_data, some, bad_end, bad_batch, large_data, some_large, Point, point, bytes_for, wrote, Done, done, turn, entries_from, push_of}
use Rattle.pushing.proofs.Laws.Tests.{turn_large, turn_write, entries_in_turn}
use Rattle.demands.specs.Push.{Push, id_in, outcome}
use Rattle.demands.proofs.Push.Ways.{by_batch, by_turn}

-- ---- the refused id

-- shut, so that antt sees which push it is asked of
KeepsId : List ℕ → Done → Type 0
KeepsId ids r = (number : ℕ) → (number ≡ 3) ⊎ (number ≡ 4) → r.answer.reason ≡ refused number 0 → r.answer.state.last < get_or ids r.answer.written 0

module _ (ids ends bytes : List ℕ) where
  -- it is refused by another number
  other : (k j : ℕ) (q : Point) → (k ≡ 3 → ⊥) → (k ≡ 4 → ⊥) → KeepsId ids (done (refused k 0) j q)
  unfolding KeepsId
  other k j q three four number which e = let n : k ≡ number = cc in absurd (⊎_elim (λ f. three (n ∙ f)) (λ f. four (n ∙ f)) which)

  above : (k j : ℕ) (q : Point) → q.state.last < get_or ids j 0 → KeepsId ids (done (refused k 0) j q)
  unfolding KeepsId
  above k j q l number which e = l

  unrefused : (j : ℕ) (q : Point) → KeepsId ids (done none j q)
  unfolding KeepsId
  unrefused j q number which e = cc

  keeps_from : (n j : ℕ) (p : Point) → KeepsId ids (entries_from ids ends bytes n j p)
  unfolding entries_from
  keeps_from zero j p = unrefused j p
  keeps_from (suc n) j p = by_turn ids ends bytes n j p (KeepsId ids)
      (λ a. other 2 j p (λ e. omega arith) (λ e. omega arith))
      (λ a b. above 3 j p a)
      (λ a b c. above 4 j p a)
      (λ a b c. keeps_from n (suc j) _)

  keeps_id : (store : List ℕ) (st : State) → KeepsId ids (push_of store st ids ends bytes)
  keeps_id store st = by_batch store st ids ends bytes (KeepsId ids)
      (other 1 0 (point st store) (λ e. omega arith) (λ e. omega arith))
      (other 13 0 (point st store) (λ e. omega arith) (λ e. omega arith))
      (other 16 0 (point st store) (λ e. omega arith) (λ e. omega arith))
      (λ l. keeps_from (length ids) 0 (point st store))

-- THEOREM: on any input the id of the entry that 3 or 4 refuses is above last written
pub refused_keeps_id : (q : Push) (number : ℕ) → (number ≡ 3) ⊎ (number ≡ 4) → (outcome q).answer.reason ≡ refused number 0
    → (outcome q).answer.state.last < id_in q (outcome q).answer.written
unfolding KeepsId
refused_keeps_id q = keeps_id q.ids q.ends q.bytes q.store q.state

-- ---- a push of one entry

module _ (store : List ℕ) (st : State) (id : ℕ) (d : List ℕ) where
  -- its data is all of the buffer
  one_data : entry_data (length d ∷ []) d 0 ≡ d
  unfolding entry_data
  one_data = rw (sub-zero (length d)) (take-length d)

  one_good : bad_batch (id ∷ []) (length d ∷ []) d ≡ false
  unfolding bad_batch some bad_end
  one_good = rw (le-ltb (length d) 0 (omega arith), le-ltb (length d) (length d) (omega arith))

  one_small : length d ≤ data_end → some_large (length d ∷ []) d ≡ false
  unfolding some_large some large_data
  one_small b = rw (one_data, le-ltb data_end (length d) (omega arith))

  module _ (g : Good store st.length) (a : st.last < id) where
    abbrev alone : Done
    alone = push_of store st (id ∷ []) (length d ∷ []) d

    abbrev here : Point
    here = point st store

    -- the push comes to what its turn comes to
    one_turn : length d ≤ data_end → (r : Round Done Point) → turn 0 id d here ≡ r → alone ≡ follow (entries_from (id ∷ []) (length d ∷ []) d 0 1) r
    unfolding entries_from
    one_turn b r e =
        sym (entries_in_turn store st (id ∷ []) (length d ∷ []) d (not_bad store st.length g) one_good (one_small b))
        ∙ ap (follow (entries_from (id ∷ []) (length d ∷ []) d 0 1)) (ap (λ (x : List ℕ). turn 0 id x here) one_data ∙ e)

    pub one_too_large : length d ≡ data_end → alone ≡ done (refused 3 0) 0 here
    one_too_large b = one_turn (omega arith) _ (turn_large 0 id d here a (omega arith))

    one_written : length d < data_end → bytes_for d ≤ length store - st.length → alone ≡ done none 1 (wrote id d here)
    unfolding entries_from
    one_written b c = one_turn (omega arith) _ (turn_write 0 id d here a b c)

-- THEOREM: on any input what 3 or 4 refused is written by a push of it alone, from the state that the refused push left, given data that is not too large
-- and a store, the same or another, that is not refused 1 and has room
pub tried_again : (q : Push) (number : ℕ) → (number ≡ 3) ⊎ (number ≡ 4) → (outcome q).answer.reason ≡ refused number 0
    → (store d : List ℕ) → Good store (outcome q).answer.state.length → length d < data_end → bytes_for d ≤ length store - (outcome q).answer.state.length
    → push_of store (outcome q).answer.state (id_in q (outcome q).answer.written ∷ []) (length d ∷ []) d
    ≡ done none 1 (wrote (id_in q (outcome q).answer.written) d (point (outcome q).answer.state store))
tried_again q number which e store d g b c = one_written store (outcome q).answer.state (id_in q (outcome q).answer.written) d g (refused_keeps_id q number which e) b c
