-- What the tests 13 and 16 say of a batch's ends. Assumes nothing.
use Prim.Native.Nat.{ℕ, zero, suc, ◌-◌, ◌≤◌, ◌<◌}
use mathlib.Core.Path.{◌≡◌, refl, ◌∙◌}
use mathlib.Core.Bool.{Bool, true, false, not, ◌||◌, or-true}
use mathlib.Core.Logic.{⊎_elim}
use mathlib.Core.List.{List}
use native.Mathlib.Omega.{arith}
use borrow.Author.Tests.{ltb-false, eqb-true, not-false, lt-ltb, eq-eqb, ne_eqb}
use Rattle.std.proofs.Common.{MatchBool}
use lib.Dec.{ltb, eqb}
use lib.ListN.{length, get_or, length-take, length-drop}
use Rattle.page.specs.Size.{data_end}
use Rattle.pushing.specs.Push.{before, entry_data, some, bad_end, bad_batch, large_data, some_large}
use Rattle.refusal.proofs.Cases.{side}
use Rattle.catalog.proofs.Laws.Bounds.{neither}

-- ---- some number below n passes a test

module _ (test : ℕ → Bool) where
  pub some_found : (n k : ℕ) → k < n → test k ≡ true → some test n ≡ true
  unfolding some
  some_found zero k l e = absurd (omega arith)
  some_found (suc n) k l e = ⊎_elim
      (λ s. rw (some_found n k s e))
      (λ s. let q : n ≡ k = omega arith in rw (q, e) (or-true (some test k)))
      (side k n)

  pub some_not : (n k : ℕ) → some test n ≡ false → k < n → test k ≡ false
  unfolding some
  some_not zero k e l = absurd (omega arith)
  some_not (suc n) k e l =
      let both = neither (some test n) (test n) e in
      ⊎_elim (λ s. some_not n k both.0 s) (λ s. let q : k ≡ n = omega arith in rw q both.1) (side k n)

  pub some_none : (n : ℕ) → ((j : ℕ) → j < n → test j ≡ false) → some test n ≡ false
  unfolding some
  some_none zero f = refl
  some_none (suc n) f = rw (some_none n (λ j l. f j (omega arith)), f n (omega arith))

  -- what a search for a number that passes the test found
  module _ {P Q : ℕ → Type 0} (n : ℕ) (yes : (j : ℕ) → j < n → P j → test j ≡ true) (no : (j : ℕ) → j < n → Q j → test j ≡ false) where
    pub some_says : (r : Bool) → MatchBool r ((j : ℕ) × (j < n) × P j) ((j : ℕ) → j < n → Q j) → some test n ≡ r
    some_says true e = some_found n e.0 e.1 (yes e.0 e.1 e.2)
    some_says false e = some_none n (λ j l. no j l (e j l))

-- ---- 13

module _ (ids ends bytes : List ℕ) where
  pub bad_counts : (length ids ≡ length ends → ⊥) → bad_batch ids ends bytes ≡ true
  unfolding bad_batch
  bad_counts d = rw (ne_eqb (length ids) (length ends) d)

  -- whether end j is bad, as the code tests it
  abbrev is_bad : ℕ → Bool
  is_bad j = ltb (get_or ends j 0) (before ends j) || ltb (length bytes) (get_or ends j 0)

  pub batch_says : {P Q : ℕ → Type 0} → length ids ≡ length ends
      → ((j : ℕ) → j < length ends → P j → is_bad j ≡ true) → ((j : ℕ) → j < length ends → Q j → is_bad j ≡ false)
      → (r : Bool) → MatchBool r ((j : ℕ) × (j < length ends) × P j) ((j : ℕ) → j < length ends → Q j) → bad_batch ids ends bytes ≡ r
  unfolding bad_batch bad_end
  batch_says same f g r e = rw (eq-eqb (length ids) (length ends) same) (some_says (bad_end ends bytes) (length ends) f g r e)

  -- kept: docs/PORT.md names it, and `large_data_lem`
  pub bad_end_lem : length ids ≡ length ends → (j : ℕ) → j < length ends → bad_end ends bytes j ≡ true → bad_batch ids ends bytes ≡ true
  unfolding bad_batch
  bad_end_lem same j l e = rw (eq-eqb (length ids) (length ends) same, some_found (bad_end ends bytes) (length ends) j l e)

-- an entry's data lies in the batch data
pub record DataLies (ends bytes : List ℕ) (j : ℕ) : Type 0 where
  pub above : before ends j ≤ get_or ends j 0
  pub inside : get_or ends j 0 ≤ length bytes
  pub size : length (entry_data ends bytes j) ≡ get_or ends j 0 - before ends j

module _ (ids ends bytes : List ℕ) (good : bad_batch ids ends bytes ≡ false) where
  parts : (not (eqb (length ids) (length ends)) ≡ false) × (some (bad_end ends bytes) (length ends) ≡ false)
  unfolding bad_batch
  parts = neither (not (eqb (length ids) (length ends))) (some (bad_end ends bytes) (length ends)) good

  pub good_counts : length ids ≡ length ends
  good_counts = eqb-true (length ids) (length ends) (not-false (eqb (length ids) (length ends)) parts.0)

  pub data_lies : (j : ℕ) → j < length ends → DataLies ends bytes j
  unfolding bad_end entry_data
  data_lies j l =
      let both = neither (ltb (get_or ends j 0) (before ends j)) (ltb (length bytes) (get_or ends j 0)) (some_not (bad_end ends bytes) (length ends) j parts.1 l) in
      let a : before ends j ≤ get_or ends j 0 = ltb-false (get_or ends j 0) (before ends j) both.0 in
      let b : get_or ends j 0 ≤ length bytes = ltb-false (length bytes) (get_or ends j 0) both.1 in
      record { above = a; inside = b; size = simp (length-take, length-drop) (omega arith) }

-- ---- 16

pub large_data_lem : (ends bytes : List ℕ) (j : ℕ) → j < length ends → data_end < length (entry_data ends bytes j) → some_large ends bytes ≡ true
unfolding some_large large_data
large_data_lem ends bytes j l a = some_found (large_data ends bytes) (length ends) j l (lt-ltb data_end (length (entry_data ends bytes j)) a)

module _ (ids ends bytes : List ℕ) (good : bad_batch ids ends bytes ≡ false) where
  -- whether the data of entry j is too long, as the code tests it
  abbrev is_large : ℕ → Bool
  is_large j = ltb data_end (get_or ends j 0 - before ends j)

  large_is : (j : ℕ) → j < length ends → large_data ends bytes j ≡ is_large j
  unfolding large_data
  large_is j l = rw ((data_lies ids ends bytes good j l).size)

  pub large_says : {P Q : ℕ → Type 0} → ((j : ℕ) → j < length ends → P j → is_large j ≡ true) → ((j : ℕ) → j < length ends → Q j → is_large j ≡ false)
      → (r : Bool) → MatchBool r ((j : ℕ) × (j < length ends) × P j) ((j : ℕ) → j < length ends → Q j) → some_large ends bytes ≡ r
  unfolding some_large
  large_says f g r e =
      some_says (large_data ends bytes) (length ends) (λ j l p. large_is j l ∙ f j l p) (λ j l q. large_is j l ∙ g j l q) r e
