-- The sound check answers sound exactly where the log is sound. Assumes nothing.
use Prim.Native.Nat.{ℕ, zero, suc, ◌+◌, ◌-◌, ◌%◌, ◌≤◌, ◌<◌}
use mathlib.Core.Path.{◌≡◌, refl, sym, ap, ◌∙◌, subst}
use mathlib.Core.Logic.{◌⊎◌, inl, inr, ⊎_elim}
use mathlib.Core.List.{List}
use lib.ListN.{length, take}
use native.Mathlib.Omega.{arith}
use Rattle.refusal.proofs.Cases.{side, order, same_or_not, which}
use Rattle.page.specs.Size.{page_size, id_size, page_count}
use Rattle.page.specs.Mark.{mark_at}
use Rattle.page.specs.Entry.{length_at, id_at, data_length_at, after_at, entry_at}
use Rattle.page.proofs.Starting.{IsWhole, whole_at, after_start}
use Rattle.catalog.specs.Round.{Round, again}
use Rattle.catalog.specs.Bounds.{too_long}
use Rattle.catalog.specs.Check.{Checking, sound, refused, Checkpoint, checkpoint, later_marks, check_page, check_end, check_from, check_log, check_of}
use Rattle.catalog.proofs.Laws.Bounds.{fitting, not_too_long}
use Rattle.catalog.proofs.Laws.Check.Steps.{later_done, later_on, start_later, past_start, check_page_start, check_page_idle, CheckPageSays, passes_idle, passes_entry, finds_fault, check_page_says, from_end, from_fault, from_on, end_excess, end_sound, check_bad, check_good}
use Rattle.demands.specs.Sound.{Start, Sound, SoundStore}

never_sound : (number value : ℕ) → refused number value ≡ sound → ⊥
never_sound number value e = let z : ◌≡◌ {A = ℕ} 0 1 = cc in omega arith

-- ---- a sound log passes

marks_pass : (log : List ℕ) (id k p after : ℕ) → after ≡ p + k → ((q : ℕ) → p ≤ q → q < after → mark_at log q ≡ 0) → later_marks log id k p ≡ again (checkpoint after id)
marks_pass log id zero p after e f = let z : p ≡ after = omega arith in later_done log id 0 p refl ∙ rw z
marks_pass log id (suc k) p after e f =
    later_on log id (suc k) k p refl (f p (omega arith) (omega arith))
    ∙ marks_pass log id k (p + 1) after (omega arith) (λ q a b. f q (omega arith) b)

module _ (log : List ℕ) (s : Sound log) where
  -- every start from page p on has a greater id
  abbrev GreaterFrom : ℕ → ℕ → Type 0
  GreaterFrom p last = (q : ℕ) → Start log q → p ≤ q → last < id_at log q

  -- a start passes, to the page after its entry
  start_passes : (p last : ℕ) → Start log p → last < id_at log p → check_page log p last ≡ again (checkpoint (after_at log p) (id_at log p))
  start_passes p last b l =
      check_page_start log p last b.marked
      ∙ sym (start_later log p last (entry_at log p) (id_at log p) (data_length_at log p) (after_at log p) (whole_at log p (s.long p b) (s.within p b)) l)
      ∙ marks_pass log (id_at log p) (after_at log p - (p + 1)) (p + 1) (after_at log p) (omega (arith, after_start log p)) later
    where
      later : (q : ℕ) → p + 1 ≤ q → q < after_at log p → mark_at log q ≡ 0
      later q a z = ⊎_elim
          (λ m. m)
          (λ m. absurd (omega (arith, s.apart p q b (record { inside = omega (arith, s.within p b); marked = m }) (omega arith))))
          (s.marks q (omega (arith, s.within p b)))

  -- one round, where the pages after it pass
  round_passes : (k p last : ℕ) → p < page_count log → GreaterFrom p last
      → ((q id : ℕ) → p < q → GreaterFrom q id → check_from log k (checkpoint q id) ≡ sound) → check_from log (suc k) (checkpoint p last) ≡ sound
  round_passes k p last l h rest = ⊎_elim idle_page start_page (s.marks p l)
    where
      idle_page : mark_at log p ≡ 0 → check_from log (suc k) (checkpoint p last) ≡ sound
      idle_page m =
          from_on log k p last l (p + 1) last (check_page_idle log p last m (λ z. omega (arith, ap (mark_at log) z, s.first (omega arith))))
          ∙ rest (p + 1) last (omega arith) (λ q b a. h q b (omega arith))

      start_page : mark_at log p ≡ 1 → check_from log (suc k) (checkpoint p last) ≡ sound
      start_page m =
          let b : Start log p = record { inside = l; marked = m } in
          from_on log k p last l (after_at log p) (id_at log p) (start_passes p last b (h p b (omega arith)))
          ∙ rest (after_at log p) (id_at log p) (after_start log p) (λ q c a. s.rising p q b c (omega (arith, after_start log p)))

  passes : (k p last : ℕ) → page_count log ≤ p + k → GreaterFrom p last → check_from log k (checkpoint p last) ≡ sound
  passes zero p last e h = from_end log 0 p last (omega arith) ∙ sym (end_sound log s.pages)
  passes (suc k) p last e h = ⊎_elim
      (λ l. round_passes k p last l h (λ q id a b. passes k q id (omega arith) b))
      (λ l. from_end log (suc k) p last l ∙ sym (end_sound log s.pages))
      (side p (page_count log))

  pub sound_passes : check_log log ≡ sound
  sound_passes = passes (page_count log) 0 0 (omega arith) (λ q b l. s.from_one q b)

-- ---- what passes is sound

module _ (log : List ℕ) where
  -- the log is sound below page p: every entry that starts there ends there, and no id is above `last`
  record SoundBelow (p last : ℕ) : Type 0 where
    marks : (q : ℕ) → q < p → (mark_at log q ≡ 0) ⊎ (mark_at log q ≡ 1)
    first : 0 < p → mark_at log 0 ≡ 1
    long : (q : ℕ) → Start log q → q < p → id_size ≤ length_at log q
    ends : (q : ℕ) → Start log q → q < p → after_at log q ≤ p
    within : (q : ℕ) → Start log q → q < p → after_at log q ≤ page_count log
    apart : (q r : ℕ) → Start log q → Start log r → q < r → r < p → after_at log q ≤ r
    rising : (q r : ℕ) → Start log q → Start log r → q < r → r < p → id_at log q < id_at log r
    top : (q : ℕ) → Start log q → q < p → id_at log q ≤ last
    from_one : (q : ℕ) → Start log q → q < p → 1 ≤ id_at log q

  -- from page p to page `end`, where each page between has mark 0
  module _ (p end : ℕ) (later : (q : ℕ) → p < q → q < end → mark_at log q ≡ 0) where
    -- what holds of the starts below p, and of p if it is one, holds of those below `end`
    starts_below : (X : ℕ → Type 0) → ((q : ℕ) → Start log q → q < p → X q) → (Start log p → X p) → (q : ℕ) → Start log q → q < end → X q
    starts_below X f g q b l = ⊎_elim here (⊎_elim (λ m. f q b m) (λ m. absurd (omega (arith, later q m l, b.marked)))) (order q p)
      where
        here : q ≡ p → X q
        here e = let z : p ≡ q = sym e in subst X z (g (rw e at b))

    marks_below : ((q : ℕ) → q < p → (mark_at log q ≡ 0) ⊎ (mark_at log q ≡ 1)) → (mark_at log p ≡ 0) ⊎ (mark_at log p ≡ 1)
        → (q : ℕ) → q < end → (mark_at log q ≡ 0) ⊎ (mark_at log q ≡ 1)
    marks_below f m q l = ⊎_elim (λ e. rw e m) (⊎_elim (λ a. f q a) (λ a. inl (later q a l))) (order q p)

  below_idle : (p last : ℕ) → mark_at log p ≡ 0 → (p ≡ 0 → ⊥) → SoundBelow p last → SoundBelow (p + 1) last
  below_idle p last m z h = record {
    marks = marks_below p (p + 1) none h.marks (inl m);
    first = λ l. h.first (⊎_elim (λ a. a) (λ a. absurd (z (omega arith))) (side 0 p));
    long = λ q b l. h.long q b (less q b l);
    ends = λ q b l. omega (arith, h.ends q b (less q b l));
    within = λ q b l. h.within q b (less q b l);
    apart = λ q r b c l n. h.apart q r b c l (less r c n);
    rising = λ q r b c l n. h.rising q r b c l (less r c n);
    top = λ q b l. h.top q b (less q b l);
    from_one = λ q b l. h.from_one q b (less q b l);
  }
    where
      none : (q : ℕ) → p < q → q < p + 1 → mark_at log q ≡ 0
      none q a b = absurd (omega arith)

      less : (q : ℕ) → Start log q → q < p + 1 → q < p
      less = starts_below p (p + 1) none (λ q. q < p) (λ q b l. l) (λ b. absurd (omega (arith, b.marked)))

  below_entry : (p last id len after : ℕ) → mark_at log p ≡ 1 → IsWhole log p id len after → last < id → ((q : ℕ) → p < q → q < after → mark_at log q ≡ 0)
      → SoundBelow p last → SoundBelow after id
  below_entry p last id len after m w l later h = record {
    marks = marks_below p after later h.marks (inr m);
    first = λ n. ⊎_elim (λ a. h.first a) (λ a. let z : p ≡ 0 = omega arith in rw z at m) (side 0 p);
    long = starts_below p after later (λ q. id_size ≤ length_at log q) h.long (λ b. w.long);
    ends = starts_below p after later (λ q. after_at log q ≤ after) (λ q b n. omega (arith, h.ends q b n, past_start w)) (λ b. omega (arith, w.after_is));
    within = starts_below p after later (λ q. after_at log q ≤ page_count log) h.within (λ b. omega (arith, w.after_is, w.within));
    apart = λ q r b c n o. starts_below p after later (λ r. q < r → after_at log q ≤ r) (λ r c o n. h.apart q r b c n o) (λ c n. h.ends q b n) r c o n;
    rising = λ q r b c n o. starts_below p after later (λ r. q < r → id_at log q < id_at log r) (λ r c o n. h.rising q r b c n o) (λ c n. omega (arith, h.top q b n, w.id_is)) r c o n;
    top = starts_below p after later (λ q. id_at log q ≤ id) (λ q b n. omega (arith, h.top q b n)) (λ b. omega (arith, w.id_is));
    from_one = starts_below p after later (λ q. 1 ≤ id_at log q) h.from_one (λ b. omega (arith, w.id_is));
  }

  below_all : (p last : ℕ) → page_count log ≤ p → check_end log ≡ sound → SoundBelow p last → Sound log
  below_all p last e f h = record {
    pages = ⊎_elim (λ z. z) (λ z. absurd (never_sound 7 (page_count log) (end_excess log (page_count log) refl z ∙ f))) (same_or_not (length log % page_size) 0);
    marks = λ q l. h.marks q (omega arith);
    first = λ l. h.first (omega arith);
    long = λ q b. h.long q b (omega (arith, b.inside));
    apart = λ q r b c l. h.apart q r b c l (omega (arith, c.inside));
    within = λ q b. h.within q b (omega (arith, b.inside));
    rising = λ q r b c l. h.rising q r b c l (omega (arith, c.inside));
    from_one = λ q b. h.from_one q b (omega (arith, b.inside));
  }

  -- one round that passes, where what passes after it is sound
  round_passed : (k p last : ℕ) → p < page_count log → SoundBelow p last → check_from log (suc k) (checkpoint p last) ≡ sound
      → ((q id : ℕ) → p < q → SoundBelow q id → check_from log k (checkpoint q id) ≡ sound → Sound log) → Sound log
  round_passed k p last l h f rest = go (check_page log p last) (check_page_says log p last) refl
    where
      go : (t : Round Checking Checkpoint) → CheckPageSays log p last t → check_page log p last ≡ t → Sound log
      go t (passes_idle m z) a = rest (p + 1) last (omega arith) (below_idle p last m z h) (sym (from_on log k p last l (p + 1) last a) ∙ f)
      go t (passes_entry {id} {len} {after} m w n later) a =
          rest after id (past_start w) (below_entry p last id len after m w n later h) (sym (from_on log k p last l after id a) ∙ f)
      go t (finds_fault number value) a = absurd (never_sound number value (sym (from_fault log k p last l number value a) ∙ f))

  passed : (k p last : ℕ) → page_count log ≤ p + k → SoundBelow p last → check_from log k (checkpoint p last) ≡ sound → Sound log
  passed zero p last e h f = below_all p last (omega arith) (sym (from_end log 0 p last (omega arith)) ∙ f) h
  passed (suc k) p last e h f = ⊎_elim
      (λ l. round_passed k p last l h f (λ q id a b g. passed k q id (omega arith) b g))
      (λ l. below_all p last l (sym (from_end log (suc k) p last l) ∙ f) h)
      (side p (page_count log))

  pub passes_sound : check_log log ≡ sound → Sound log
  passes_sound = passed (page_count log) 0 0 (omega arith) (record {
    marks = λ q l. absurd (omega arith);
    first = λ l. absurd (omega arith);
    long = λ q b l. absurd (omega arith);
    ends = λ q b l. absurd (omega arith);
    within = λ q b l. absurd (omega arith);
    apart = λ q r b c l n. absurd (omega arith);
    rising = λ q r b c l n. absurd (omega arith);
    top = λ q b l. absurd (omega arith);
    from_one = λ q b l. absurd (omega arith);
  })

-- ---- THE LAW: sound is answered exactly where the store and the length are in bounds and the log is sound

module _ (store : List ℕ) (n : ℕ) where
  only_sound : check_of store n ≡ sound → SoundStore store n
  only_sound e = ⊎_elim
      (λ t. absurd (never_sound 1 0 (check_bad store n t ∙ e)))
      (λ t. record { fits = fitting store n t; sound = passes_sound (take n store) (check_good store n t ∙ e) })
      (which (too_long store n))

  every_sound : SoundStore store n → check_of store n ≡ sound
  every_sound g = sym (check_good store n (not_too_long store n g.fits)) ∙ sound_passes (take n store) g.sound

  pub checked_sound : (check_of store n ≡ sound → SoundStore store n) × (SoundStore store n → check_of store n ≡ sound)
  checked_sound = (only_sound, every_sound)
