-- Rules 11, "What is promised", 11.12: a sequence from its first start on, through any notes, refused ones among them.
use Rattle.std.specs.Prelude.{ℕ, ◌≤◌, ◌<◌, ◌≡◌, true, ◌↔◌}
use mathlib.Core.List.{List, [], ◌∷◌, Memᴰ}
use Rattle.sequence.specs.Known.{Known}
use Rattle.sequence.specs.Sequence.{Noting, noted, refused, new_of, complete_of, note_of}
use Rattle.sequence.specs.declared.IdSequence.{IdSequence}

-- the sequence and its words as they are, and the ids that were noted and not refused
pub record History : Type 0 where
  pub sequence : IdSequence
  pub words : List ℕ
  pub ids : List ℕ

-- a new sequence, over words that hold anything
abbrev pub begun : ℕ → List ℕ → History
begun first words = record { sequence = new_of first; words = words; ids = [] }

-- an id that is not refused is noted; a refusal leaves the sequence
unfoldable pub answered : History → ℕ → Noting → List ℕ → History
answered h id (noted start after) words =
    record { sequence = record { start = start; after = after }; words = words; ids = id ∷ h.ids }
answered h id (refused number value) words =
    record { sequence = h.sequence; words = words; ids = h.ids }

-- one note
abbrev pub step : History → ℕ → History
step h id =
    answered h id (note_of h.sequence h.words id).answer (note_of h.sequence h.words id).words

-- any notes, one after the other
unfoldable pub run : History → List ℕ → History
run h [] = h
run h (id ∷ notes) = run (step h id) notes

-- the id is one of these
abbrev pub In : ℕ → List ℕ → Type 0
In id ids = Memᴰ id ids

-- 11.12 "no id from the first start to the highest noted is missing": to any noted id, so to the highest
abbrev pub NoGap : ℕ → List ℕ → Type 0
NoGap first ids = (i highest : ℕ) → In highest ids → first ≤ i → i ≤ highest → In i ids

-- of a sequence as it is after some notes, and after any later ones
pub record RightSequence (first : ℕ) (now later : History) : Type 0 where
  -- 11.12 "Complete is yes exactly if no id from the first start to the highest noted is missing"
  pub complete : (complete_of now.sequence ≡ true) ↔ NoGap first now.ids
  -- 11.12 "Start never falls"
  pub start_rises : now.sequence.start ≤ later.sequence.start
  -- 11.12 "and never passes an id that is not noted"
  pub start_passes : (i : ℕ) → first ≤ i → i < now.sequence.start → In i now.ids
  -- 11.12 "and it stays noted"
  pub accepted_stays : (i : ℕ) → In i now.ids → Known later.sequence.after later.sequence.start later.words i
