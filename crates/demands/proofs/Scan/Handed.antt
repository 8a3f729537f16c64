-- On a sound log the steps from any page on hand over the entries of the range that start there or later, and then the end. Assumes nothing.
use Prim.Native.Nat.{ℕ, zero, suc, ◌+◌, ◌*◌, ◌/◌, ◌≤◌, ◌<◌}
use mathlib.Core.Path.{◌≡◌, refl, sym, ap, ◌∙◌, subst}
use mathlib.Core.Bool.{true, false}
use mathlib.Core.Logic.{⊎_elim}
use mathlib.Core.List.{List, []}
use native.Mathlib.Omega.{arith}
use lib.ListN.{length, take}
use Rattle.refusal.proofs.Cases.{side, which}
use Rattle.page.specs.Size.{page_size, page_count}
use Rattle.page.specs.Mark.{mark_at}
use Rattle.page.specs.Entry.{whole, id_at, data_length_at, after_at, entry_at}
use Rattle.page.specs.Data.{data_at}
use Rattle.page.proofs.Placing.{length_data}
use Rattle.page.proofs.Starting.{whole_at, after_start}
use Rattle.scanning.specs.Range.{holds_of}
use Rattle.scanning.specs.Step.{Reaching, reached, ended, faulty, forward, forward_from, advance_of, step_of}
use Rattle.catalog.specs.declared.state.State.{State}
use Rattle.scanning.specs.declared.range.Range.{Range}
use Rattle.demands.proofs.Sound.{not_bad_cursor}
use Rattle.scanning.proofs.Laws.Forward.{step_in, step_out, step_page_start, step_page_later, forward_end, forward_stop, forward_again}
use Rattle.scanning.proofs.Laws.Handing.{advance_end, advance_entry, step_open}
use Rattle.demands.specs.Sound.{Start, Sound, SoundStore}
use Rattle.demands.specs.Scan.{item_at, Hands, no_more, one_more, Enough}
use Rattle.demands.proofs.Sound.{sound_not_bad, sound_length}
use Rattle.demands.proofs.Scan.Listed.{items_of, items_end, items_pass, items_entry, items_miss}

-- ---- the way forward

-- what is reached from page p on is the first entry of the range there
record ReachesFirst (log : List ℕ) (range : Range) (p q id len after : ℕ) : Type 0 where
  low : p ≤ q
  start : Start log q
  inside : holds_of range (id_at log q) ≡ true
  id_is : id ≡ id_at log q
  len_is : len ≡ data_length_at log q
  after_is : after ≡ after_at log q
  first : items_of log range p ≡ items_of log range q

-- or there is none, and the end is the log's
record ReachesNone (log : List ℕ) (range : Range) (p cursor : ℕ) : Type 0 where
  at_end : cursor ≡ length log
  none : items_of log range p ≡ []

abbrev ReachesRight : List ℕ → Range → ℕ → Reaching → Type 0
ReachesRight log range p (reached q id len after) = ReachesFirst log range p q id len after
ReachesRight log range p (ended cursor) = ReachesNone log range p cursor
ReachesRight log range p (faulty number value) = ⊥

module _ (log : List ℕ) (range : Range) (s : Sound log) where
  -- from an earlier page with the same entries after it
  from_earlier : (p r : ℕ) → p ≤ r → items_of log range p ≡ items_of log range r → (x : Reaching) → ReachesRight log range r x → ReachesRight log range p x
  from_earlier p r l e (reached q id len after) h = record {
    low = omega (arith, h.low);
    start = h.start;
    inside = h.inside;
    id_is = h.id_is;
    len_is = h.len_is;
    after_is = h.after_is;
    first = e ∙ h.first;
  }
  from_earlier p r l e (ended cursor) h = record { at_end = h.at_end; none = e ∙ h.none }
  from_earlier p r l e (faulty number value) h = h

  at_end_of : (k p : ℕ) → page_count log ≤ p → ReachesRight log range p (forward log range k p)
  at_end_of k p l = rw (← forward_end log range k p l) (record { at_end = refl; none = items_end log range p l })

  -- at a start: its entry, or on after it
  at_start_of : (k p : ℕ) (b : Start log p) → ((q : ℕ) → p < q → ReachesRight log range q (forward log range k q)) → ReachesRight log range p (forward log range (suc k) p)
  at_start_of k p b rest =
      let w : entry_at log p ≡ whole (id_at log p) (data_length_at log p) (after_at log p) = whole_at log p (s.long p b) (s.within p b) in
      let start = step_page_start log range p b.marked in
      ⊎_elim
      (λ (h : holds_of range (id_at log p) ≡ true).
      rw (← forward_stop log range k p b.inside _ (step_in log range p _ _ _ w h ∙ start))
      (record { low = omega arith; start = b; inside = h; id_is = refl; len_is = refl; after_is = refl; first = refl }))
      (λ (h : holds_of range (id_at log p) ≡ false).
      rw (← forward_again log range k p b.inside (after_at log p) (step_out log range p _ _ _ w h _ refl ∙ start))
      (from_earlier p (after_at log p) (omega (arith, after_start log p)) (items_miss log range s p b h) (forward log range k (after_at log p)) (rest (after_at log p) (after_start log p))))
      (which (holds_of range (id_at log p)))

  forward_right : (k p : ℕ) → page_count log ≤ p + k → ReachesRight log range p (forward log range k p)
  forward_right zero p e = at_end_of 0 p (omega arith)
  forward_right (suc k) p e = ⊎_elim
      (λ l. ⊎_elim
      (λ (m : mark_at log p ≡ 0). rw (← forward_again log range k p l (p + 1) (step_page_later log range p (p + 1) refl m))
      (from_earlier p (p + 1) (omega arith) (items_pass log range p l (λ b. absurd (omega (arith, b.marked)))) (forward log range k (p + 1)) (forward_right k (p + 1) (omega arith))))
      (λ m. at_start_of k p (record { inside = l; marked = m }) (λ q a. forward_right k q (omega arith)))
      (s.marks p l))
      (λ l. at_end_of (suc k) p l)
      (side p (page_count log))

  reaches_right : (p : ℕ) → ReachesRight log range p (forward_from log range p)
  unfolding forward_from
  reaches_right p = forward_right (page_count log) p (omega arith)

-- ---- the steps

module _ (store : List ℕ) (st : State) (range : Range) (m : ℕ) (good : SoundStore store st.length) (enough : Enough (take st.length store) range m) where
  abbrev log : List ℕ
  log = take st.length store

  -- the steps from page p on hand over the entries from there on
  abbrev HandsFrom : ℕ → Type 0
  HandsFrom p = Hands store st range m (p * page_size) (items_of log range p)

  step_at : (p : ℕ) → p ≤ page_count log → (out : List ℕ) → step_of store st range (p * page_size) out ≡ advance_of log range p out
  step_at p l out =
      let q : p * page_size / page_size ≡ p = omega arith in
      step_open store st range (p * page_size) out (sound_not_bad good) (not_bad_cursor st.length (p * page_size) (omega (arith, sound_length good)) (omega arith))
      ∙ ap (λ (k : ℕ). advance_of log range k out) q

  hands_none : (p cursor : ℕ) → p ≤ page_count log → ended cursor ≡ forward_from log range p → ReachesNone log range p cursor → HandsFrom p
  hands_none p cursor l e h =
      rw h.none
      (no_more (p * page_size) (λ out. step_at p l out ∙ sym (advance_end log range p out st.length cursor e (omega (arith, h.at_end, sound_length good)))))

  hands_first : (p q id len after : ℕ) → p ≤ page_count log → reached q id len after ≡ forward_from log range p → ReachesFirst log range p q id len after → HandsFrom after → HandsFrom p
  unfolding item_at
  hands_first p q id len after l e h rest =
      let bytes : List ℕ = data_at log q (data_length_at log q) in
      let size : length bytes ≡ data_length_at log q = length_data log q (data_length_at log q) in
      rw (h.first ∙ items_entry log range good.sound q h.start h.inside)
      (one_more (p * page_size) (id_at log q) (after * page_size) bytes (items_of log range (after_at log q))
      (λ out big. step_at p l out
      ∙ sym (advance_entry log range p out q id len after e len (after * page_size) refl refl (omega (arith, h.len_is, enough q h.start h.inside)))
      ∙ rw (size, h.len_is, h.id_is))
      (subst (λ (k : ℕ). Hands store st range m (after * page_size) (items_of log range k)) h.after_is rest))

  -- one step, where the steps from later pages are known
  hands_step : (p : ℕ) → p ≤ page_count log → ((q : ℕ) → p < q → q ≤ page_count log → HandsFrom q)
      → (x : Reaching) → x ≡ forward_from log range p → ReachesRight log range p x → HandsFrom p
  hands_step p l rest (reached q id len after) e h =
      hands_first p q id len after l e h
      (rest after (omega (arith, h.low, h.after_is, after_start log q)) (omega (arith, h.after_is, good.sound.within q h.start)))
  hands_step p l rest (ended cursor) e h = hands_none p cursor l e h
  hands_step p l rest (faulty number value) e h = absurd h

  hands_within : (f p : ℕ) → page_count log ≤ p + f → p ≤ page_count log → HandsFrom p
  hands_within zero p e l = hands_step p l (λ q a b. absurd (omega arith)) (forward_from log range p) refl (reaches_right log range good.sound p)
  hands_within (suc f) p e l = hands_step p l (λ q a b. hands_within f q (omega arith) b) (forward_from log range p) refl (reaches_right log range good.sound p)

  pub hands_from : (p : ℕ) → p ≤ page_count log → Hands store st range m (p * page_size) (items_of log range p)
  hands_from p l = hands_within (page_count log) p (omega arith) l
