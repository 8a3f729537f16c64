-- On a sound log the lookup's rounds come to the right answer, whatever page of its window each of them guesses. Assumes nothing.
use Prim.Native.Nat.{ℕ, zero, suc, ◌+◌, ◌-◌, ◌≤◌, ◌<◌, max}
use mathlib.Core.Path.{◌≡◌, refl, ap, ◌∙◌, subst}
use mathlib.Core.Logic.{◌⊎◌, inl, inr, ⊎_elim}
use mathlib.Core.List.{List}
use native.Mathlib.Omega.{arith}
use Rattle.refusal.proofs.Cases.{side, order}
use Rattle.page.specs.Size.{page_count}
use Rattle.page.specs.Mark.{mark_at}
use Rattle.page.specs.Entry.{whole, id_at, data_length_at, after_at, entry_at}
use Rattle.page.proofs.Starting.{whole_at}
use Rattle.catalog.specs.Round.{Round, stop, again, follow}
use Rattle.catalog.specs.Lookup.{Looking, Saying, saying_at, Window, window, turned, walk, round_from, guess_in, search, all_pages}
use Rattle.catalog.proofs.Laws.Lookup.Saying.{compare_same, compare_below, compare_above, says_start, says_back}
use Rattle.catalog.proofs.Laws.Lookup.Rounds.{Between, Smaller, round_smaller, walk_at, InWindow, guess_inside, search_empty, search_round}
use Rattle.demands.specs.Sound.{Start, Sound}
use Rattle.demands.specs.Lookup.{standing, RightStanding, AnyGuess, emptied, stops, narrows}

-- the entries before the window have smaller ids, those from its end on greater ones
pub record Around (log : List ℕ) (id : ℕ) (w : Window) : Type 0 where
  pub low : (p : ℕ) → Start log p → p < w.lo → id_at log p < id
  pub high : (p : ℕ) → Start log p → w.hi ≤ p → id < id_at log p
  pub top : w.hi ≤ page_count log
  pub edge : (w.hi ≡ page_count log) ⊎ Start log w.hi

-- a round stops with the right answer, or goes on with a window around which the entries lie so
abbrev RightRound : List ℕ → ℕ → Round Looking Window → Type 0
RightRound log id (stop r) = RightStanding log id (standing r)
RightRound log id (again v) = Around log id v

module _ (log : List ℕ) (s : Sound log) where
  -- ids rise, also weakly
  rising_le : (p q : ℕ) → Start log p → Start log q → p ≤ q → id_at log p ≤ id_at log q
  rising_le p q hp hq l = ⊎_elim (λ e. omega (arith, ap (id_at log) e)) (⊎_elim (λ m. omega (arith, s.rising p q hp hq m)) (λ m. omega arith)) (order p q)

  module _ (id : ℕ) (w : Window) (a : Around log id w) (g : ℕ) (inside : g < w.hi) where
    -- no page after p up to the guess starts an entry
    abbrev Clear : ℕ → Type 0
    Clear p = (q : ℕ) → p < q → q ≤ g → mark_at log q ≡ 0

    module _ (p : ℕ) (clear : Clear p) (u : p ≤ g) (rest : Round Looking Window) where
      abbrev TurnedRight : Saying → Type 0
      TurnedRight x = RightRound log id (turned w g p rest x)

      at_entry : Start log p → TurnedRight (saying_at log id p)
      unfolding turned
      at_entry h = ⊎_elim same (⊎_elim less more) (order (id_at log p) id)
        where
          entry : entry_at log p ≡ whole (id_at log p) (data_length_at log p) (after_at log p)
          entry = whole_at log p (s.long p h) (s.within p h)

          same : id_at log p ≡ id → TurnedRight (saying_at log id p)
          same e = subst TurnedRight (compare_same id p _ _ _ _ entry e ∙ says_start log id p h.marked) (record { page = p; start = h; has = e; at_page = refl; size = refl })

          less : id_at log p < id → TurnedRight (saying_at log id p)
          less e = subst TurnedRight (compare_below id p _ _ _ _ entry e ∙ says_start log id p h.marked) (record { low = under; high = a.high; top = a.top; edge = a.edge })
            where
              under : (q : ℕ) → Start log q → q < max (g + 1) (after_at log p) → id_at log q < id
              under q hq m = ⊎_elim (λ n. absurd (⊎_elim
                  (λ v. omega (arith, clear q n (omega arith), hq.marked))
                  (λ v. omega (arith, s.apart p q h hq n)) (side q (g + 1))))
                  (λ n. omega (arith, rising_le q p hq h n)) (side p q)

          more : id < id_at log p → TurnedRight (saying_at log id p)
          more e =
              subst TurnedRight (compare_above id p _ _ _ _ entry e ∙ says_start log id p h.marked)
              (record { low = a.low; high = λ q hq m. omega (arith, rising_le p q h hq m); top = omega (arith, a.top); edge = inr h })

      at_page : (mark_at log p ≡ 0 → RightRound log id rest) → TurnedRight (saying_at log id p)
      unfolding turned
      at_page further =
          let within : p < page_count log = omega (arith, a.top) in
          ⊎_elim
          (λ (m : mark_at log p ≡ 0). subst TurnedRight (says_back log id p m) (further m))
          (λ (m : mark_at log p ≡ 1). at_entry (record { inside = within; marked = m }))
          (s.marks p within)

    walked : (d : ℕ) → w.lo + d ≤ g → Clear (w.lo + d) → RightRound log id (walk log id w g d)
    walked zero u clear =
        rw (walk_at log id w g zero w.lo (omega arith))
        (at_page w.lo (λ q n v. clear q (omega arith) v) (omega arith) _ none)
      where
        none : mark_at log w.lo ≡ 0 → Around log id (window (g + 1) w.hi w.a w.b)
        none m = record { low = under; high = a.high; top = a.top; edge = a.edge }
          where
            under : (q : ℕ) → Start log q → q < g + 1 → id_at log q < id
            under q hq l = ⊎_elim (λ n. a.low q hq n)
                (λ n. absurd (⊎_elim (λ e. omega (arith, ap (mark_at log) e, hq.marked)) (⊎_elim (λ e. omega arith)
                (λ e. omega (arith, clear q (omega arith) (omega arith), hq.marked))) (order q w.lo))) (side q w.lo)
    walked (suc d) u clear =
        rw (walk_at log id w g (suc d) (w.lo + suc d) refl)
        (at_page (w.lo + suc d) clear u _ (λ m. walked d (omega arith) (next m)))
      where
        next : mark_at log (w.lo + suc d) ≡ 0 → Clear (w.lo + d)
        next m q n v = ⊎_elim (λ e. ap (mark_at log) e ∙ m) (⊎_elim (λ e. absurd (omega arith)) (λ e. clear q e v)) (order q (w.lo + suc d))

  module _ (id : ℕ) where
    rounded : (w : Window) → Around log id w → (g : ℕ) → w.lo ≤ g → g < w.hi → RightRound log id (round_from log id w g)
    rounded w a g low high = walked id w a g high (g - w.lo) (omega arith) (λ q n v. absurd (omega arith))

    any_around : {w : Window} {r : Looking} → AnyGuess log id w r → Around log id w → RightStanding log id (standing r)
    any_around (emptied w l) a =
        record { page = w.hi; at_page = refl; edge = a.edge; below = λ p h m. a.low p h (omega arith); above = a.high }
    any_around (stops w g r low high e) a = rw e at (rounded w a g low high)
    any_around (narrows w v g r low high e rest) a = any_around rest (rw e at (rounded w a g low high))

    -- THE LAW: from all pages
    pub any_guess_right : (next : ℕ) {r : Looking} → AnyGuess log id (all_pages log next) r → RightStanding log id (standing r)
    any_guess_right next g =
        any_around g (record { low = λ p h m. absurd (omega arith); high = λ p h m. absurd (omega (arith, h.inside)); top = omega arith; edge = inl refl })

-- ---- the rule's is one way to guess

module _ (log : List ℕ) (id : ℕ) where
  module _ (k : ℕ) (w : Window) (b : Between id w) (g : ℕ) (i : InWindow w g)
      (rest : (v : Window) → Smaller id w v → AnyGuess log id v (search log id k v)) where
    followed : (x : Round Looking Window) → round_from log id w g ≡ x → AnyGuess log id w (follow (search log id k) x)
    followed (stop r) e = stops w g r i.low i.high e
    followed (again v) e = narrows w v g (search log id k v) i.low i.high e (rest v (round_smaller log id w b g i v e))

  one_guess : (k : ℕ) (w : Window) → w.lo < w.hi → Between id w → ((v : Window) → Smaller id w v → AnyGuess log id v (search log id k v)) → AnyGuess log id w (search log id (suc k) w)
  one_guess k w l b rest = rw (search_round log id w k l) (followed k w b (guess_in id w) (guess_inside id w l) rest (round_from log id w (guess_in id w)) refl)

  pub search_guesses : (k : ℕ) (w : Window) → w.hi ≤ w.lo + k → Between id w → AnyGuess log id w (search log id k w)
  search_guesses zero w n b = rw (search_empty log id w 0 (omega arith)) (emptied w (omega arith))
  search_guesses (suc k) w n b = ⊎_elim
      (λ l. one_guess k w l b (λ v m. search_guesses k v (omega (arith, m.less)) m.between))
      (λ l. rw (search_empty log id w (suc k) l) (emptied w l))
      (side w.lo w.hi)
