-- A state in which the last id of all is written: no id is handed out and no entry is taken. Assumes nothing.
use Prim.Native.Nat.{ℕ, zero, suc}
use mathlib.Core.Path.{◌≡◌, refl, sym}
use mathlib.Core.List.{List}
use lib.ListN.{length}
use native.Mathlib.Omega.{arith}
use Rattle.catalog.specs.State.{state_of, top_id, refused, take_of}
use Rattle.catalog.proofs.Laws.States.{take_refused_lem}
use Rattle.pushing.specs.Push.{Point, point, Done, entries_from, push_of}
use Rattle.demands.specs.History.{Words}
use Rattle.demands.proofs.Push.Ways.{by_batch, by_turn}

pub full_hands_none : (n : ℕ) → take_of (state_of n top_id top_id top_id) ≡ refused 9 0
full_hands_none n = sym (take_refused_lem (state_of n top_id top_id top_id) refl)

-- shut, so that antt sees which push it is asked of
NoneWritten : Done → Type 0
NoneWritten r = r.answer.written ≡ 0

module _ (store : List ℕ) (n : ℕ) (ids ends bytes : List ℕ) (words : Words ids) where
  abbrev here : Point
  here = point (state_of n top_id top_id top_id) store

  none_from : (k : ℕ) → NoneWritten (entries_from ids ends bytes k 0 here)
  unfolding NoneWritten entries_from
  none_from zero = refl
  none_from (suc k) = by_turn ids ends bytes k 0 here NoneWritten
      (λ a. refl)
      (λ a b. refl)
      (λ a b c. refl)
      (λ a b c. absurd (omega (arith, words 0)))

  pub full_takes_none : (push_of store (state_of n top_id top_id top_id) ids ends bytes).answer.written ≡ 0
  unfolding NoneWritten
  full_takes_none = by_batch store (state_of n top_id top_id top_id) ids ends bytes NoneWritten refl refl refl (λ l. none_from (length ids))
