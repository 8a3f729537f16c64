-- The state's next and ceiling through a history: next never falls, if recoveries are given a ceiling at or above it, and stays at or below the ceiling. Assumes nothing.
use Prim.Native.Nat.{ℕ, ◌+◌, ◌≤◌}
use mathlib.Core.Path.{◌≡◌, refl}
use mathlib.Core.List.{List, []}
use native.Mathlib.Omega.{arith}
use Rattle.catalog.specs.State.{taken, refused as untaken, take_of}
use Rattle.catalog.specs.Recovery.{Recovering, recovered, refused, recover_of}
use Rattle.catalog.specs.declared.state.State.{State}
use Rattle.demands.specs.History.{World, Call, push, take_id, raise, find, lookup, scan, step_on, recover, lend, cut_log, state_after_take, state_after_raise, state_after_recovery}
use Rattle.demands.specs.History.{Answer, pushed, handed_out, raised_to, located, looked_up, scan_began, stepped, restored, lent, reopened, after_cut, after, answer, step}
use Rattle.demands.specs.Used.{state_in, GivenAtLeast}
use Rattle.demands.proofs.Taking.{by_take, by_raise}
use Rattle.demands.proofs.Push.Batch.{push_grows}
use Rattle.demands.proofs.Recovery.Resuming.{by_recovery}
use Rattle.demands.proofs.History.Living.{Lives}
use Rattle.demands.proofs.History.Cuts.{CutLeaves, not_gone_on, gone_on}
use Rattle.demands.proofs.History.Moving.{recovery_right, any_cut}

-- ---- the world has the state that was answered last

cut_state : (w : World) (store : List ℕ) (r : Recovering) → state_after_recovery w.state r ≡ (after_cut w store r).state
cut_state w store (recovered st excess dropped) = refl
cut_state w store (refused number value) = refl

pub state_answered : (w : World) (a : Answer) → state_in w.state a ≡ (after w a).state
state_answered w (pushed r) = refl
state_answered w (handed_out r) = refl
state_answered w (raised_to r) = refl
state_answered w (located r) = refl
state_answered w (looked_up r) = refl
state_answered w (scan_began r) = refl
state_answered w (stepped r) = refl
state_answered w (restored r) = refl
state_answered w (lent store) = refl
state_answered w (reopened store r) = cut_state w store r

-- ---- next and the ceiling

pub record Risen (st st' : State) : Type 0 where
  pub rises : st.next ≤ st'.next
  pub under : st'.next ≤ st'.ceiling

module _ (w : World) (i : Lives w) (u : w.state.next ≤ w.state.ceiling) where
  abbrev here : State
  here = w.state

  stays : Risen here here
  stays = record { rises = omega arith; under = u }

  recovery_risen : (stored : ℕ) → here.next ≤ stored → Risen here (state_after_recovery here (recover_of w.store here.length stored))
  recovery_risen stored l = by_recovery (λ r. Risen here (state_after_recovery here r)) stays
      (λ st h. record { rises = omega (arith, h.next); under = omega (arith, h.ceiling) })
      (recover_of w.store here.length stored) (recovery_right w i stored)

  cut_risen : (stored : ℕ) → here.next ≤ stored → (v : World) → CutLeaves [] w stored v → Risen here v.state
  cut_risen stored l v not_gone_on = stays
  cut_risen stored l v (gone_on v' o h front) = record { rises = omega (arith, h.next); under = omega (arith, h.ceiling) }

  pub call_risen : (c : Call) → GivenAtLeast here.next c → Risen here (step w c).state
  unfolding step answer
  call_risen (push ids ends bytes words) g =
      let p = push_grows w.store here ids ends bytes in
      record { rises = omega (arith, p.next); under = omega (arith, p.next, p.ceiling) }
  call_risen take_id g = by_take here (λ r. Risen here (state_after_take here r)) stays stays (λ l. record { rises = omega arith; under = omega arith })
  call_risen (raise by) g = by_raise here by (λ r. Risen here (state_after_raise here r)) stays (record { rises = omega arith; under = omega arith })
  call_risen (find id) g = stays
  call_risen (lookup id out) g = stays
  call_risen (scan range) g = stays
  call_risen (step_on range cursor out) g = stays
  call_risen (recover stored) g = recovery_risen stored g
  call_risen (lend rest) g = stays
  call_risen (cut_log n stored rest) g = cut_risen stored g _ (any_cut w i n stored rest)

-- a ceiling at or above the last one is at or above next
pub given_less : (m n : ℕ) → m ≤ n → (c : Call) → GivenAtLeast n c → GivenAtLeast m c
given_less m n l (push ids ends bytes words) g = tt
given_less m n l take_id g = tt
given_less m n l (raise by) g = tt
given_less m n l (find id) g = tt
given_less m n l (lookup id out) g = tt
given_less m n l (scan range) g = tt
given_less m n l (step_on range cursor out) g = tt
given_less m n l (recover stored) g = omega (arith, l, g)
given_less m n l (lend rest) g = tt
given_less m n l (cut_log bytes stored rest) g = omega (arith, l, g)

-- ---- an id that is handed out is next, and next goes on after it

pub record IsNext (st st' : State) (id : ℕ) : Type 0 where
  pub is : id ≡ st.next
  pub after : st'.next ≡ id + 1

module _ (w : World) (id : ℕ) (state : State) where
  not_taken : (number value : ℕ) → untaken number value ≡ taken id state → ⊥
  not_taken number value e = let z : ◌≡◌ {A = ℕ} 0 1 = cc in omega arith

  take_next : take_of w.state ≡ taken id state → IsNext w.state (state_after_take w.state (take_of w.state)) id
  take_next = by_take w.state (λ r. r ≡ taken id state → IsNext w.state (state_after_take w.state r) id)
      (λ e. absurd (not_taken 9 0 e))
      (λ e. absurd (not_taken 30 0 e))
      (λ l e. let f : id ≡ w.state.next = cc in record { is = f; after = omega (arith, f) })

  pub hands_next : (c : Call) → answer w c ≡ handed_out (taken id state) → IsNext w.state (step w c).state id
  unfolding step answer
  hands_next (push ids ends bytes words) e = cc
  hands_next take_id e = take_next (cc)
  hands_next (raise by) e = cc
  hands_next (find i) e = cc
  hands_next (lookup i out) e = cc
  hands_next (scan range) e = cc
  hands_next (step_on range cursor out) e = cc
  hands_next (recover stored) e = cc
  hands_next (lend rest) e = cc
  hands_next (cut_log n stored rest) e = cc
