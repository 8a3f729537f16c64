-- The last entry stored: there is only one, and on a sound log it has the greatest id, also after the log grew. Assumes nothing.
use Prim.Native.Nat.{ℕ, ◌≤◌}
use mathlib.Core.Path.{◌≡◌, sym, ap, ◌∙◌}
use mathlib.Core.Logic.{⊎_elim}
use mathlib.Core.List.{List, ◌++◌}
use native.Mathlib.Omega.{arith}
use lib.ListN.{take}
use Rattle.refusal.proofs.Cases.{side, order}
use Rattle.page.specs.Entry.{id_at}
use Rattle.page.proofs.Growing.{id_kept}
use Rattle.catalog.specs.declared.state.State.{State}
use Rattle.demands.specs.Sound.{Start, Sound, SoundStore, Last, LastStored, nothing_stored, last_entry}
use Rattle.demands.specs.Push.{Ready}
use Rattle.demands.proofs.Push.Appending.{start_kept}

last_unique : (log : List ℕ) (p q : ℕ) → Last log p → Last log q → p ≡ q
last_unique log p q l m = omega (arith, l.none q m.start, m.none p l.start)

-- there is only one such id
pub last_stored_unique : (log : List ℕ) (m n : ℕ) → LastStored log m → LastStored log n → m ≡ n
last_stored_unique log m n (nothing_stored none e) (nothing_stored none' f) = e ∙ sym f
last_stored_unique log m n (nothing_stored none e) (last_entry q k f) = absurd (none q k.start)
last_stored_unique log m n (last_entry p l e) (nothing_stored none f) = absurd (none p l.start)
last_stored_unique log m n (last_entry p l e) (last_entry q k f) = sym e ∙ ap (id_at log) (last_unique log p q l k) ∙ f

module _ (log : List ℕ) (s : Sound log) where
  -- the last entry has the greatest id
  last_greatest : (p q : ℕ) → Last log p → Start log q → id_at log q ≤ id_at log p
  last_greatest p q l b = ⊎_elim
      (λ e. omega (arith, ap (id_at log) e))
      (⊎_elim (λ a. omega (arith, s.rising q p b l.start a)) (λ a. absurd (omega (arith, l.none q b))))
      (order q p)

  -- and an entry with the greatest id is the last
  pub greatest_last : (p : ℕ) → Start log p → ((q : ℕ) → Start log q → id_at log q ≤ id_at log p) → Last log p
  greatest_last p h most = record {
    start = h;
    none = λ q b. ⊎_elim (λ a. absurd (omega (arith, s.rising p q h b a, most q b))) (λ a. a) (side p q);
  }

  pub last_stored_greatest : (n : ℕ) → LastStored log n → (q : ℕ) → Start log q → id_at log q ≤ n
  last_stored_greatest n (nothing_stored none e) q b = absurd (none q b)
  last_stored_greatest n (last_entry p l e) q b = omega (arith, e, last_greatest p q l b)

-- after bytes were put after the log it is no smaller
pub last_stored_rises : (log x : List ℕ) → Sound (log ++ x) → (m n : ℕ) → LastStored log m → LastStored (log ++ x) n → m ≤ n
last_stored_rises log x s m n (nothing_stored none e) k = omega arith
last_stored_rises log x s m n (last_entry p l e) k =
    omega (arith, e, id_kept log x p l.start.inside, last_stored_greatest (log ++ x) s n k p (start_kept log x p l.start))

-- a push may go on from a sound log whose last stored id is last written
pub last_stored_ready : (store : List ℕ) (st : State) → SoundStore store st.length → LastStored (take st.length store) st.last → Ready store st
last_stored_ready store st good last = record { good = good; under = last_stored_greatest (take st.length store) good.sound st.last last }
