-- From a new sequence, over any words and through any notes: complete is right, start passes noted ids only, and what is noted stays so. Assumes nothing.
use Prim.Native.Nat.{ℕ, ◌+◌, ◌-◌, ◌%◌, ◌^◌, ◌≤◌, ◌<◌, max}
use mathlib.Core.Path.{◌≡◌, sym, ap, ◌∙◌}
use mathlib.Core.Logic.{◌⊎◌, inl, inr, ⊎_elim, ◌↔◌}
use mathlib.Core.Bool.{true, false}
use mathlib.Core.List.Memᴰ
use mathlib.Core.List.{List, [], ◌∷◌}
use native.Mathlib.Omega.{arith}
use borrow.Author.Tests.{leb-true, le-leb, eqb-false}
use lib.ListN.{length, get_or}
use Rattle.sequence.specs.Window.{bit_at, all_noted}
use Rattle.sequence.specs.Sequence.{next, stored, rounds, complete_of}
use Rattle.sequence.specs.Known.{Known}
use Rattle.sequence.specs.History.{History, begun, answered, step, run, In, NoGap, RightSequence}
use Rattle.refusal.proofs.Cases.{side}
use Rattle.sequence.proofs.Bits.{bits_ones}
use Rattle.sequence.proofs.Window.{first_bit}
use Rattle.sequence.proofs.Rounds.{rounds_stopped}
use Rattle.sequence.proofs.Known.{stored_length, known_stored, rounds_length, rounds_rise, known_rounds}
use Rattle.sequence.proofs.Notes.{by_cases}

-- what the sequence has as noted are the ids from the first start on that were; the highest is the one before after;
-- and start stands before an id that is not noted, unless none remain
record Stands (first : ℕ) (ids : List ℕ) (after start : ℕ) (words : List ℕ) : Type 0 where
  size : length words ≡ 64
  from : first ≤ start
  right : (i : ℕ) → first ≤ i → Known after start words i → In i ids
  whole : (i : ℕ) → In i ids → Known after start words i
  highest : start < after → In (after - 1) ids
  stopped : start < after → all_noted (get_or words 0 0) (next after start) ≡ false

stands_begun : (first : ℕ) (words : List ℕ) → length words ≡ 64 → Stands first [] first first words
stands_begun first words size = record {
  size = size;
  from = omega arith;
  right = λ i f k. absurd (none i f k);
  whole = λ i m. absurd (Memᴰ.not-nil m);
  highest = λ l. absurd (omega arith);
  stopped = λ l. absurd (omega arith);
}
  where
    none : (i : ℕ) → first ≤ i → Known first first words i → ⊥
    none i f (inl l) = omega arith
    none i f (inr (g, l, e)) = omega arith

-- ---- a note that is not refused

module _ {first : ℕ} {ids : List ℕ} {after start : ℕ} {words : List ℕ} (s : Stands first ids after start words) (id : ℕ) (over : start ≤ id) (near : id - start < 4096) where
  abbrev past : ℕ
  past = max after (id + 1)

  abbrev ws : List ℕ
  ws = stored (record { start = start; after = after }) words id

  stands_noted : (k : ℕ) → past - start ≤ k
      → Stands first (id ∷ ids) past (rounds k past start ws).start (rounds k past start ws).words
  stands_noted k enough = record {
    size = rounds_length k past start ws ∙ stored_length after start words s.size id over near;
    from = omega (arith, s.from, rises);
    right = λ i f x. added i f ((known_stored after start words s.size id over near i).0 ((known_rounds k past start ws i).0 x));
    whole = λ i m. (known_rounds k past start ws i).1 ((known_stored after start words s.size id over near i).1 (known i (Memᴰ.cases_cons m)));
    highest = λ l. ⊎_elim (λ g. Memᴰ.head {x = id} (omega arith)) (λ g. Memᴰ.tail (Memᴰ.cast (omega arith) (s.highest (omega (arith, rises))))) (side after (id + 1));
    stopped = rounds_stopped k past start ws enough;
  }
    where
      rises : start ≤ (rounds k past start ws).start
      rises = rounds_rise k past start ws

      added : (i : ℕ) → first ≤ i → Known after start words i ⊎ (i ≡ id) → In i (id ∷ ids)
      added i f (inl x) = Memᴰ.tail (s.right i f x)
      added i f (inr q) = Memᴰ.head {x = id} q

      known : (i : ℕ) → (i ≡ id) ⊎ In i ids → Known after start words i ⊎ (i ≡ id)
      known i (inl q) = inr q
      known i (inr m) = inl (s.whole i m)

-- ---- any notes

abbrev StandsAt : ℕ → History → Type 0
StandsAt first h = Stands first h.ids h.sequence.after h.sequence.start h.words

record Onward (first : ℕ) (now later : History) : Type 0 where
  stands : StandsAt first later
  rises : now.sequence.start ≤ later.sequence.start
  grows : (i : ℕ) → In i now.ids → In i later.ids

onward_step : (first : ℕ) (h : History) (id : ℕ) → StandsAt first h → Onward first h (step h id)
unfolding answered
onward_step first h id s =
    by_cases h.sequence h.words id (λ o. Onward first h (answered h id o.answer o.words))
    (λ number. record { stands = s; rises = omega arith; grows = λ i m. m })
    (λ g l. record { stands = stands_noted s id g l _ (omega arith); rises = rounds_rise _ _ _ _; grows = λ i m. Memᴰ.tail m })

onward_run : (first : ℕ) (h : History) (notes : List ℕ) → StandsAt first h → Onward first h (run h notes)
unfolding run
onward_run first h [] s = record { stands = s; rises = omega arith; grows = λ i m. m }
onward_run first h (id ∷ notes) s =
    let a = onward_step first h id s in
    let b = onward_run first (step h id) notes a.stands in
    record { stands = b.stands; rises = omega (arith, a.rises, b.rises); grows = λ i m. b.grows i (a.grows i m) }

-- ---- complete

module _ {first : ℕ} {ids : List ℕ} {after start : ℕ} {words : List ℕ} (s : Stands first ids after start words) where
  none_remain : after ≤ start → NoGap first ids
  none_remain c i highest m f l = s.right i f (inl (below (s.whole highest m)))
    where
      below : Known after start words highest → i < start
      below (inl b) = omega arith
      below (inr (g, b, e)) = omega arith

  some_remain : start < after → NoGap first ids → ⊥
  some_remain l g =
      eqb-false (get_or words 0 0 % 2 ^ next after start) (2 ^ next after start - 1) (s.stopped l)
      (bits_ones (get_or words 0 0) (next after start) (λ k b. sym (first_bit words k (omega arith)) ∙ set_bit k (s.whole (start + k) (member k b))))
    where
      member : (k : ℕ) → k < next after start → In (start + k) ids
      member k b = g (start + k) (after - 1) (s.highest l) (omega (arith, s.from)) (omega arith)

      set_bit : (k : ℕ) → Known after start words (start + k) → bit_at words k ≡ 1
      set_bit k (inl b) = absurd (omega arith)
      set_bit k (inr (a, b, e)) = ap (λ (n : ℕ). bit_at words n) (let q : k ≡ start + k - start = omega arith in q) ∙ e

complete_is : (first : ℕ) (h : History) → StandsAt first h → (complete_of h.sequence ≡ true) ↔ NoGap first h.ids
complete_is first h s = (
  λ e. none_remain s (leb-true h.sequence.after h.sequence.start e),
  λ g. ⊎_elim (λ l. absurd (some_remain s l g)) (λ l. le-leb h.sequence.after h.sequence.start l) (side h.sequence.start h.sequence.after),
)

-- ---- the theorem

-- over any words, after any notes, refused ones among them, and after any later ones
pub complete_right : (first : ℕ) (words : List ℕ) → length words ≡ 64 → (notes more : List ℕ)
    → RightSequence first (run (begun first words) notes) (run (run (begun first words) notes) more)
complete_right first words size notes more =
    let s = (onward_run first (begun first words) notes (stands_begun first words size)).stands in
    let o = onward_run first (run (begun first words) notes) more s in
    record {
      complete = complete_is first (run (begun first words) notes) s;
      start_rises = o.rises;
      start_passes = λ i f l. s.right i f (inl l);
      accepted_stays = λ i m. o.stands.whole i (o.grows i m);
    }
