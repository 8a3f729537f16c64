-- The rounds of a truncation, one by one. Assumes nothing.
use Prim.Native.Nat.{ℕ, zero, suc, ◌+◌, ◌-◌, ◌≤◌, ◌<◌, min}
use mathlib.Core.Path.{◌≡◌, refl, sym, ap, ◌∙◌}
use mathlib.Core.Bool.{Bool, true, false}
use mathlib.Core.List.{List}
use mathlib.Core.Logic.{⊎_elim}
use native.Mathlib.Omega.{arith}
use borrow.Author.Tests.{lt-ltb, le-ltb}
use lib.ListN.{get_or}
use lib.Dec.{ltb}
use Rattle.sequence.specs.Sequence.{Truncated, truncated, next, passed, rounds, truncate_of}
use Rattle.sequence.specs.Window.{all_noted, shifted}
use Rattle.refusal.specs.Pick.{pick}
use Rattle.refusal.proofs.Cases.{side}

module _ (after start : ℕ) (words : List ℕ) where
  pub rounds_none : rounds 0 after start words ≡ truncated start words
  unfolding rounds
  rounds_none = refl

  pub rounds_end : (k : ℕ) → after ≤ start → rounds k after start words ≡ truncated start words
  unfolding rounds
  rounds_end zero h = refl
  rounds_end (suc k) h = rw (le-ltb start after h)

  pub rounds_stop : (k : ℕ) → all_noted (get_or words 0 0) (next after start) ≡ false → rounds k after start words ≡ truncated start words
  unfolding rounds
  rounds_stop zero e = refl
  rounds_stop (suc k) e = rw e (same (ltb start after))
    where
      same : (t : Bool) → pick t (truncated start words) (truncated start words) ≡ truncated start words
      same true = refl
      same false = refl

  pub rounds_go : (k : ℕ) → start < after → all_noted (get_or words 0 0) (next after start) ≡ true
      → rounds (suc k) after start words ≡ rounds k after (start + next after start) (passed after start words)
  unfolding rounds
  rounds_go k h e = rw (lt-ltb start after h, e)

-- no more than 64 ids remain, and each is noted
pub rounds_last : (k after start : ℕ) (words : List ℕ) → start < after → after - start ≤ 64 → after - start ≤ k
    → true ≡ all_noted (get_or words 0 0) (next after start) → rounds k after start words ≡ truncated after words
rounds_last zero after start words l h b e = absurd (omega arith)
rounds_last (suc k) after start words l h b e =
    rounds_go after start words k l (sym e) ∙ rw (le-ltb 64 (after - start) h) (rounds_end after (start + next after start) words k (omega arith) ∙ ap (λ (n : ℕ). truncated n words) ends)
  where
    ends : start + next after start ≡ after
    ends = omega arith

-- what each round keeps, all of them keep
pub by_rounds : (after : ℕ) (P : ℕ → List ℕ → Type 0)
    → ((start : ℕ) (words : List ℕ) → start < after → all_noted (get_or words 0 0) (next after start) ≡ true → P start words
    → P (start + next after start) (passed after start words))
    → (k start : ℕ) (words : List ℕ) → P start words → P (rounds k after start words).start (rounds k after start words).words
by_rounds after P one zero start words p = rw (rounds_none after start words) p
by_rounds after P one (suc k) start words p =
    ⊎_elim (λ l. inside l (by_rounds after P one k (start + next after start) (passed after start words)) (all_noted (get_or words 0 0) (next after start)) refl)
    (λ l. rw (rounds_end after start words (suc k) l) p)
    (side start after)
  where
    Kept : Truncated → Type 0
    Kept m = P m.start m.words

    inside : start < after → (P (start + next after start) (passed after start words) → Kept (rounds k after (start + next after start) (passed after start words)))
        → (t : Bool) → all_noted (get_or words 0 0) (next after start) ≡ t → Kept (rounds (suc k) after start words)
    inside l again false e = rw (rounds_stop after start words (suc k) e) p
    inside l again true e = rw (rounds_go after start words k l e) (again (one start words l e p))

-- the rounds are enough, whatever the words: either none remain, or not all the next ids are noted
pub rounds_stopped : (k after start : ℕ) (words : List ℕ) → after - start ≤ k
    → (rounds k after start words).start < after → all_noted (get_or (rounds k after start words).words 0 0) (next after (rounds k after start words).start) ≡ false
rounds_stopped zero after start words b = rw (rounds_none after start words) (λ l. absurd (omega arith))
rounds_stopped (suc k) after start words b =
    ⊎_elim (λ l. inside l (rounds_stopped k after (start + next after start) (passed after start words) (omega arith)) (all_noted (get_or words 0 0) (next after start)) refl)
    (λ l. rw (rounds_end after start words (suc k) l) (λ g. absurd (omega arith)))
    (side start after)
  where
    Stopped : Truncated → Type 0
    Stopped m = m.start < after → all_noted (get_or m.words 0 0) (next after m.start) ≡ false

    inside : start < after → Stopped (rounds k after (start + next after start) (passed after start words))
        → (t : Bool) → all_noted (get_or words 0 0) (next after start) ≡ t → Stopped (rounds (suc k) after start words)
    inside l again false e = rw (rounds_stop after start words (suc k) e) (λ g. e)
    inside l again true e = rw (rounds_go after start words k l e) again

-- what is left to do gives what the whole gives
pub record Going (after from : ℕ) (words₀ : List ℕ) (start : ℕ) (words : List ℕ) : Type 0 where
  pub fuel : ℕ
  pub enough : after - start ≤ fuel
  pub same : rounds fuel after start words ≡ truncate_of after from words₀

-- kept: docs/PORT.md names it, and `going_last`
pub going : (after from : ℕ) (words : List ℕ) → Going after from words from words
going after from words = record { fuel = after - from; enough = omega arith; same = refl }

module _ {after from : ℕ} {words₀ : List ℕ} {start : ℕ} {words : List ℕ} (g : Going after from words₀ start words) where
  -- the word that was looked at is the first, and so are its bits
  pub first_word : {t : Bool} (i left : ℕ) → t ≡ all_noted (get_or words i 0) (min 64 left) → i ≡ 0 → left ≡ after - start
      → all_noted (get_or words 0 0) (next after start) ≡ t
  first_word i left h e l = sym (rw (e, l) at h)

  pub going_end : after ≤ start → truncated start words ≡ truncate_of after from words₀
  going_end h = sym (rounds_end after start words g.fuel h) ∙ g.same

  pub going_stop : all_noted (get_or words 0 0) (next after start) ≡ false → truncated start words ≡ truncate_of after from words₀
  going_stop e = sym (rounds_stop after start words g.fuel e) ∙ g.same

  going_on : (n : ℕ) (ws : List ℕ) → n ≡ next after start → ws ≡ passed after start words → start < after
      → all_noted (get_or words 0 0) (next after start) ≡ true → Going after from words₀ (start + n) ws
  going_on n ws p q h e = go g.fuel g.enough g.same
    where
      go : (k : ℕ) → after - start ≤ k → rounds k after start words ≡ truncate_of after from words₀ → Going after from words₀ (start + n) ws
      go zero l s = absurd (omega arith)
      go (suc k) l s = record { fuel = k; enough = omega arith; same = rw (p, q) (sym (rounds_go after start words k h e) ∙ s) }

  -- more than 64 ids remain
  pub going_more : 64 < after - start → all_noted (get_or words 0 0) (next after start) ≡ true → Going after from words₀ (start + 64) (shifted words)
  going_more h e = going_on 64 (shifted words) (omega arith) (rw (lt-ltb 64 (after - start) h)) (omega arith) e

-- no more than 64 ids remain
pub going_last : {after from : ℕ} {words₀ : List ℕ} {start : ℕ} {words : List ℕ} → Going after from words₀ start words → start < after → after - start ≤ 64
    → all_noted (get_or words 0 0) (next after start) ≡ true → truncated after words ≡ truncate_of after from words₀
going_last {after} {start = start} {words = words} g l h e = sym (rounds_last g.fuel after start words l h g.enough (sym e)) ∙ g.same
