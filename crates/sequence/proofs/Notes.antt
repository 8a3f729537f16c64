-- What noting an id gives, case by case. Assumes nothing.
use Prim.Native.Nat.{ℕ, ◌+◌, ◌-◌, ◌/◌, ◌%◌, ◌≤◌, ◌<◌}
use mathlib.Core.Path.{◌≡◌, sym, ap}
use mathlib.Core.Logic.{◌⊎◌, inl, inr, ⊎_elim}
use mathlib.Core.List.{List}
use borrow.Author.Tests.{lt-ltb, le-ltb, le-leb, lt-leb, eq-eqb, ne_eqb}
use lib.ListN.{get_or, set}
use Rattle.sequence.specs.Window.{marked, only}
use Rattle.sequence.specs.Sequence.{Noting, refused, Truncated, truncate_of, stored, raised, Outcome, outcome, after_move, note_of}
use Rattle.sequence.specs.declared.IdSequence.{IdSequence}
use Rattle.refusal.proofs.Cases.{side, same_or_not}

-- an answer and its words, apart
pub apart : {a : Noting} {ws : List ℕ} {o : Outcome} → o ≡ outcome a ws → (a ≡ o.answer) × (ws ≡ o.words)
apart e = (sym (ap (λ (x : Outcome). x.answer) e), sym (ap (λ (x : Outcome). x.words) e))

module _ (s : IdSequence) (words : List ℕ) (id : ℕ) where
  pub note_below : id < s.start → note_of s words id ≡ outcome (refused 11 0) words
  unfolding note_of
  note_below h = rw (lt-ltb id s.start h)

  module _ (from : s.start ≤ id) where
    pub note_far : 4096 ≤ id - s.start → note_of s words id ≡ outcome (refused 12 0) words
    unfolding note_of
    note_far h = rw (le-ltb id s.start from, le-leb 4096 (id - s.start) h)

    -- 2^64-1 is refused, near or far
    pub note_last : id ≡ 18446744073709551615 → note_of s words id ≡ outcome (refused 12 0) words
    unfolding note_of
    note_last e =
        ⊎_elim (λ (near : id - s.start < 4096). rw (le-ltb id s.start from, lt-leb 4096 (id - s.start) near, eq-eqb id 18446744073709551615 e)) note_far
        (side (id - s.start) 4096)

    module _ (near : id - s.start < 4096) where
      module _ (fits : id ≡ 18446744073709551615 → ⊥) where
        pub note_in : note_of s words id ≡ after_move (raised s id) (truncate_of (raised s id) s.start (stored s words id))
        unfolding note_of
        note_in = rw (le-ltb id s.start from, lt-leb 4096 (id - s.start) near, ne_eqb id 18446744073709551615 fits)

        -- the same from its parts
        pub note_of_lem : (offset held at count past word : ℕ) (left : List ℕ) (m : Truncated)
            → offset ≡ id - s.start
            → at ≡ offset / 64
            → count ≡ at + 1
            → held ≡ s.after - s.start
            → left ≡ only held count words
            → word ≡ marked (get_or left at 0) (offset % 64)
            → past ≡ raised s id
            → m ≡ truncate_of past s.start (set left at word)
            → note_of s words id ≡ after_move past m
        note_of_lem offset held at count past word left m o a c h l w p e = rw (e, w, l, c, h, p, a, o) note_in

-- a note is refused, with the words unchanged, or the id lies in the window and is noted
pub by_cases : (s : IdSequence) (words : List ℕ) (id : ℕ) (P : Outcome → Type 0)
    → ((number : ℕ) → P (outcome (refused number 0) words))
    → (s.start ≤ id → id - s.start < 4096 → P (after_move (raised s id) (truncate_of (raised s id) s.start (stored s words id))))
    → P (note_of s words id)
by_cases s words id P refusal accepted = ⊎_elim (λ l. is _ (note_below s words id l) (refusal 11)) from (side id s.start)
  where
    is : (o : Outcome) → note_of s words id ≡ o → P o → P (note_of s words id)
    is o e p = rw e p

    near : s.start ≤ id → id - s.start < 4096 → (id ≡ 18446744073709551615) ⊎ (id ≡ 18446744073709551615 → ⊥) → P (note_of s words id)
    near g l (inl e) = is _ (note_last s words id g e) (refusal 12)
    near g l (inr n) = is _ (note_in s words id g l n) (accepted g l)

    from : s.start ≤ id → P (note_of s words id)
    from g = ⊎_elim (λ l. near g l (same_or_not id 18446744073709551615)) (λ f. is _ (note_far s words id g f) (refusal 12)) (side (id - s.start) 4096)
