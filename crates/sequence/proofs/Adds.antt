-- Over any sequence and any words: a note adds its id to those that are noted, and no other. Assumes nothing.
use Prim.Native.Nat.{ℕ}
use mathlib.Core.Path.{◌≡◌, sym}
use mathlib.Core.Logic.Iff
use mathlib.Core.Logic.{◌⊎◌, ◌↔◌}
use mathlib.Core.List.{List}
use native.Mathlib.Omega.{arith}
use lib.ListN.{length}
use Rattle.sequence.specs.Sequence.{noted, Truncated, truncate_of, stored, raised, Outcome, after_move, note_of}
use Rattle.sequence.specs.Known.{Known}
use Rattle.sequence.specs.declared.IdSequence.{IdSequence}
use Rattle.sequence.proofs.Known.{known_stored, known_rounds}
use Rattle.sequence.proofs.Notes.{by_cases}

module _ (s : IdSequence) (words : List ℕ) (size : length words ≡ 64) (id : ℕ) where
  -- of an outcome that is no refusal: an id is noted after it exactly if it was before, or is the one that was noted
  abbrev Adds : Outcome → Type 0
  Adds o =
      (start after : ℕ) → o.answer ≡ noted start after
      → (i : ℕ) → Known after start o.words i ↔ (Known s.after s.start words i ⊎ (i ≡ id))

  -- the ids that are noted after moving on are those noted before it
  adds : (m : Truncated) → ((i : ℕ) → Known (raised s id) m.start m.words i ↔ (Known s.after s.start words i ⊎ (i ≡ id))) → Adds (after_move (raised s id) m)
  adds m f start after e i = rw (sym p, sym q) (f i)
    where
      p : m.start ≡ start
      p = cc

      q : raised s id ≡ after
      q = cc

  -- 10.3: the id is noted
  pub note_adds : Adds (note_of s words id)
  note_adds =
      by_cases s words id Adds (λ number start after e. let z : ◌≡◌ {A = ℕ} 0 1 = cc in absurd (omega arith))
      (λ g l. adds (truncate_of (raised s id) s.start (stored s words id)) (λ i. Iff.trans (known_rounds _ (raised s id) s.start (stored s words id) i) (known_stored s.after s.start words size id g l i)))
