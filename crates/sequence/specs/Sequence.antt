-- Rules 10, "Id sequence": what making a sequence, noting an id and asking for completeness answer.
-- 10.1 "start, and after, one past the highest id noted": since 2^64-1 is never noted, after fits 64 bits.
use Rattle.std.specs.Prelude.{ℕ, zero, suc, ◌+◌, ◌-◌, ◌/◌, min, max, Bool, List, get_or, ltb, leb, eqb, Result, Ok, Err}
use Rattle.refusal.specs.Pick.{pick}
use Rattle.refusal.specs.Refusal.{number_of, value_of}
use Rattle.sequence.specs.Window.{marked_at, all_noted, only, shifted}
use Rattle.sequence.specs.declared.IdSequence.{IdSequence}
use Rattle.refusal.specs.declared.Refusal.{Refusal}

-- the rules' answers to a note: the sequence after it, or a refusal's number and what it names
pub data Noting : Type 0 where
  noted : (start after : ℕ) → Noting
  refused : (number value : ℕ) → Noting

-- the rules' answer for each case of the code's
abbrev pub paper_noted : Result IdSequence Refusal → Noting
paper_noted (Ok s) = noted s.start s.after
paper_noted (Err r) = refused (number_of r) (value_of r)

-- 10.1 "A new one has after equal to start"
abbrev pub new_of : ℕ → IdSequence
new_of start = record { start = start; after = start }

-- 10.5 "yes exactly if none remain"
abbrev pub complete_of : IdSequence → Bool
complete_of s = leb s.after s.start

-- a start, and the words from it on
pub record Truncated : Type 0 where
  pub start : ℕ
  pub words : List ℕ

abbrev pub truncated : ℕ → List ℕ → Truncated
truncated start words = record { start = start; words = words }

-- 10.4 "the first 64 .. or however many there are"
abbrev pub next : ℕ → ℕ → ℕ
next after start = min 64 (after - start)

-- 10.7 "each time that start moves past 64 ids and more remain, the words move down by one": where none remain, no bit of them is of a noted id, and they stay
abbrev pub passed : ℕ → ℕ → List ℕ → List ℕ
passed after start words = pick (ltb 64 (after - start)) (shifted words) words

-- 10.4 "as long as any remain .. start moves past them if each is noted, else it stays and that ends it": so at most k times
unfoldable pub rounds : ℕ → ℕ → ℕ → List ℕ → Truncated
rounds zero after start words = truncated start words
rounds (suc k) after start words =
    pick (ltb start after)
    (pick (all_noted (get_or words 0 0) (next after start))
    (rounds k after (start + next after start) (passed after start words))
    (truncated start words))
    (truncated start words)

-- the same with no bound: each time start moves by one at least, so not more often than ids remain
abbrev pub truncate_of : ℕ → ℕ → List ℕ → Truncated
truncate_of after start words = rounds (after - start) after start words

-- 10.7 "clears, in the words up to the id's own, every bit of an id from the old after on; it sets the id's bit"
abbrev pub stored : IdSequence → List ℕ → ℕ → List ℕ
stored s words id =
    marked_at (only (s.after - s.start) ((id - s.start) / 64 + 1) words) (id - s.start)

-- 10.3 "after becomes the larger of itself and the id + 1"
abbrev pub raised : IdSequence → ℕ → ℕ
raised s id = max s.after (id + 1)

-- an answer, with the words that it leaves
pub record Outcome : Type 0 where
  pub answer : Noting
  pub words : List ℕ

abbrev pub outcome : Noting → List ℕ → Outcome
outcome answer words = record { answer = answer; words = words }

-- the answer once start has moved
abbrev pub after_move : ℕ → Truncated → Outcome
after_move after m = outcome (noted m.start after) m.words

-- 10.2 "11 if it is below start, 12 if it is 4,096 or more above start or is 2^64-1", with the words unchanged; 10.3 "Else the id is noted"; 10.4 "Then"
unfoldable pub note_of : IdSequence → List ℕ → ℕ → Outcome
note_of s words id =
    pick (ltb id s.start) (outcome (refused 11 0) words)
    (pick (leb 4096 (id - s.start)) (outcome (refused 12 0) words)
    (pick (eqb id 18446744073709551615) (outcome (refused 12 0) words)
    (after_move (raised s id) (truncate_of (raised s id) s.start (stored s words id)))))
