-- The bytes that a push leaves on an entry's pages depend on its id and data alone. Assumes nothing.
use Prim.Native.Nat.{ℕ, suc, ◌+◌, ◌-◌, ◌≤◌, ◌<◌}
use mathlib.Core.Path.{◌≡◌, sym, ◌∙◌}
use mathlib.Core.List.{List, ◌++◌, append_assoc}
use native.Mathlib.Omega.{arith}
use lib.ListN.{length, take, drop, replicate, length-append, take-append-drop}
use lib.Seq.{take_at, drop_at, length-take-le}
use Rattle.page.specs.Data.{place_of}
use Rattle.page.specs.Write.{entry_pages}
use Rattle.page.proofs.Joining.{length_entry}
use Rattle.page.proofs.Written.{filling_zeros}
use Rattle.pushing.specs.Push.{bytes_for, Done, push_of}
use Rattle.catalog.specs.declared.state.State.{State}
use Rattle.demands.specs.Push.{batch_pages, Push, id_in, data_in, outcome, Counted, begins_at, pages_of, AlikeFrom}
use Rattle.demands.proofs.Push.Ways.{by_batch}
use Rattle.demands.proofs.Push.Batch.{push_grows}
use Rattle.demands.proofs.Push.Places.{begins}

-- ---- THEOREM: a counted entry's pages are those that its id and data give

-- a push that counts an entry was given a length inside the store
module _ (store : List ℕ) (st : State) (ids ends bytes : List ℕ) where
  -- shut, so that antt sees which push it is asked of
  InsideIf : Done → Type 0
  InsideIf r = 0 < r.answer.written → st.length ≤ length store

  inside_if : 0 < (push_of store st ids ends bytes).answer.written → st.length ≤ length store
  unfolding InsideIf
  inside_if = by_batch store st ids ends bytes InsideIf (λ h. absurd (omega arith)) (λ h. absurd (omega arith)) (λ h. absurd (omega arith)) (λ l h. l)

pub pages_written : (q : Push) (j : ℕ) → Counted q j → pages_of q j ≡ entry_pages (id_in q j) (data_in q j)
unfolding batch_pages
pages_written q j h =
    let left = outcome q in
    let log = take q.state.length q.store in
    let earlier = batch_pages q.ids q.ends q.bytes j in
    let pages = entry_pages (id_in q j) (data_in q j) in
    let a = begins q.ids q.ends q.bytes (suc j) left.answer.written h in
    let tail = drop left.answer.state.length left.store in
    let size : length (log ++ earlier) ≡ begins_at q j =
    length-append log earlier ∙ rw (length-take-le q.state.length q.store (inside_if q.store q.state q.ids q.ends q.bytes (omega arith))) in
    let is : left.store ≡ (log ++ earlier) ++ (pages ++ (a.rest ++ tail)) =
    sym (take-append-drop left.answer.state.length left.store) ∙ rw ((push_grows q.store q.state q.ids q.ends q.bytes).log, a.is) (simp append_assoc) in
    rw (is, drop_at (log ++ earlier) (pages ++ (a.rest ++ tail)) (begins_at q j) size) (take_at pages (a.rest ++ tail) (bytes_for (data_in q j)) (length_entry (id_in q j) (data_in q j)))

-- ---- THEOREM: after a counted entry's payload its pages hold zeros, to their end

pub filling_written : (q : Push) (j : ℕ) → Counted q j → drop (place_of (length (data_in q j))) (pages_of q j) ≡ replicate (bytes_for (data_in q j) - place_of (length (data_in q j))) 0
filling_written q j h = rw (pages_written q j h) (filling_zeros (id_in q j) (data_in q j))

-- ---- THEOREM: of two pushes of any batches onto any logs, counted entries of the same id and data have the same pages

pub pages_alone : (q r : Push) (j k : ℕ) → Counted q j → Counted r k → id_in q j ≡ id_in r k → data_in q j ≡ data_in r k → pages_of q j ≡ pages_of r k
pages_alone q r j k h i e d = pages_written q j h ∙ rw (e, d) (sym (pages_written r k i))

-- ---- THEOREM: two pushes that differ only in the entries before these leave the same pages of these

pub earlier_hidden : (q r : Push) (j k : ℕ) → AlikeFrom q r j k → (i : ℕ) → Counted q (j + i) → Counted r (k + i) → pages_of q (j + i) ≡ pages_of r (k + i)
earlier_hidden q r j k a i h g = pages_alone q r (j + i) (k + i) h g (a.same_id i) (a.same_data i)
