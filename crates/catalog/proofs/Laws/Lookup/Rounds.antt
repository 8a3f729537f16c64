-- What a walk back, a round and the rounds of a search give; on any log each round leaves a smaller window, whatever its guess, or finds a whole entry. Assumes nothing.
use Prim.Native.Nat.{ℕ, zero, suc, ◌+◌, ◌-◌, ◌*◌, ◌≤◌, ◌<◌}
use mathlib.Core.Path.{◌≡◌, refl, sym, ◌∙◌, subst}
use mathlib.Core.Logic.{⊎_elim}
use mathlib.Core.List.{List}
use native.Mathlib.Omega.{arith}
use borrow.Author.Tests.{lt-ltb, le-ltb}
use Rattle.refusal.proofs.Cases.{order, side}
use Rattle.page.specs.Size.{page_size, id_size, page_count}
use Rattle.page.specs.Mark.{mark_at}
use Rattle.page.specs.Entry.{Starting, short, cut, whole, length_at, id_at, data_length_at, after_at, entry_at}
use Rattle.page.proofs.Marking.{IsBad, mark_cases}
use Rattle.page.proofs.Starting.{is_whole}
use Rattle.catalog.specs.Round.{Round, stop, again, follow}
use Rattle.catalog.specs.Guess.{offset_of}
use Rattle.catalog.specs.Lookup.{Looking, found, absent, refused, Saying, ends, below, above, back, compared, saying_at, Window, window, turned, walk, round_from, guess_in, search}
use Rattle.catalog.proofs.Laws.Lookup.Saying.{compare_short, compare_cut, compare_same, compare_below, compare_above, says_start, says_back, says_bad}

-- ---- the walk and the rounds

module _ (log : List ℕ) (id : ℕ) (w : Window) where
  -- the round if page lo + d is no start
  abbrev pub rest_of : ℕ → ℕ → Round Looking Window
  rest_of g zero = again (window (g + 1) w.hi w.a w.b)
  rest_of g (suc d) = walk log id w g d

  pub walk_at : (g d s : ℕ) → s ≡ w.lo + d → walk log id w g d ≡ turned w g s (rest_of g d) (saying_at log id s)
  unfolding walk
  walk_at g zero s e = let q : s ≡ w.lo = omega arith in rw q
  walk_at g (suc d) s e = rw e

  pub search_empty : (k : ℕ) → w.hi ≤ w.lo → search log id k w ≡ absent (w.hi * page_size)
  unfolding search
  search_empty zero h = refl
  search_empty (suc k) h = rw (le-ltb w.lo w.hi h)

  pub search_round : (k : ℕ) → w.lo < w.hi → search log id (suc k) w ≡ follow (search log id k) (round_from log id w (guess_in id w))
  unfolding search
  search_round k h = rw (lt-ltb w.lo w.hi h)

-- a page of the window
pub record InWindow (w : Window) (g : ℕ) : Type 0 where
  pub low : w.lo ≤ g
  pub high : g < w.hi

-- the rule's guess is one
pub guess_inside : (id : ℕ) (w : Window) → w.lo < w.hi → InWindow w (guess_in id w)
unfolding offset_of
guess_inside id w h = record { low = omega arith; high = omega arith }

-- ---- what a page may say, on any log

-- a whole entry with the id and so many data bytes starts at the position
pub record FoundAt (log : List ℕ) (id position len : ℕ) : Type 0 where
  pub page : ℕ
  pub at_page : position ≡ page * page_size
  pub marked : mark_at log page ≡ 1
  pub has : id_at log page ≡ id
  pub size : len ≡ data_length_at log page
  pub long : id_size ≤ length_at log page
  pub within : after_at log page ≤ page_count log

-- a page ends the lookup with such an entry found, or with a refusal
abbrev pub PageEnds : List ℕ → ℕ → Looking → Type 0
PageEnds log id (found position len) = FoundAt log id position len
PageEnds log id (absent position) = ⊥
PageEnds log id (refused number value) = Unit {0}

-- and an entry below or above the id is so
abbrev Truly : List ℕ → ℕ → Saying → Type 0
Truly log id (ends r) = PageEnds log id r
Truly log id (below stored after) = stored < id
Truly log id (above stored) = id < stored
Truly log id back = Unit {0}

module _ (log : List ℕ) (id s : ℕ) where
  entry_truly : mark_at log s ≡ 1 → (x : Starting) → entry_at log s ≡ x → Truly log id (compared id s x)
  entry_truly m short e = subst (Truly log id) (compare_short id s short refl) tt
  entry_truly m (cut stored) e = subst (Truly log id) (compare_cut id s (cut stored) stored refl) tt
  entry_truly m (whole stored len after) e = ⊎_elim
      (λ q. subst (Truly log id) (compare_same id s _ stored len after refl q) (held q))
      (⊎_elim
      (λ q. subst (Truly log id) (compare_below id s _ stored len after refl q) q)
      (λ q. subst (Truly log id) (compare_above id s _ stored len after refl q) q))
      (order stored id)
    where
      held : stored ≡ id → FoundAt log id (s * page_size) len
      held q =
          let x = is_whole e in
          record { page = s; at_page = refl; marked = m; has = sym x.id_is ∙ q; size = x.len_is; long = x.long; within = omega (arith, x.within, x.after_is) }

  says_truly : Truly log id (saying_at log id s)
  says_truly = ⊎_elim
      (λ (m : mark_at log s ≡ 1). subst (Truly log id) (says_start log id s m) (entry_truly m (entry_at log s) refl))
      (⊎_elim
      (λ (m : mark_at log s ≡ 0). subst (Truly log id) (says_back log id s m) tt)
      (λ (m : IsBad (mark_at log s)). subst (Truly log id) (says_bad log id s m) tt))
      (mark_cases (mark_at log s))

-- ---- what a round comes to, on any log

-- the id lies between the window's two
pub record Between (id : ℕ) (w : Window) : Type 0 where
  pub lower : w.a < id
  pub upper : id < w.b

-- the window v is smaller than w, inside it, and the id still lies between its two
pub record Smaller (id : ℕ) (w v : Window) : Type 0 where
  pub between : Between id v
  pub less : v.hi - v.lo < w.hi - w.lo
  pub top : v.hi ≤ w.hi

-- a round stops with an answer of which P holds, or goes on with a smaller window
RoundTo : (Looking → Type 0) → ℕ → Window → Round Looking Window → Type 0
RoundTo P id w (stop r) = P r
RoundTo P id w (again v) = Smaller id w v

module _ (log : List ℕ) (id : ℕ) (P : Looking → Type 0) (of-page : (s : ℕ) (r : Looking) → saying_at log id s ≡ ends r → P r) where
  module _ (w : Window) (b : Between id w) where
    module _ (g : ℕ) (low : w.lo ≤ g) (inside : g < w.hi) where
      turned_to : (s : ℕ) → w.lo ≤ s → s ≤ g → (rest : Round Looking Window) → RoundTo P id w rest → (x : Saying) → saying_at log id s ≡ x → RoundTo P id w (turned w g s rest x)
      unfolding RoundTo turned
      turned_to s l u rest h (ends r) e = of-page s r e
      turned_to s l u rest h (below stored after) e =
          record { between = record { lower = subst (Truly log id) e (says_truly log id s); upper = b.upper }; less = omega arith; top = omega arith }
      turned_to s l u rest h (above stored) e =
          record { between = record { lower = b.lower; upper = subst (Truly log id) e (says_truly log id s) }; less = omega arith; top = omega arith }
      turned_to s l u rest h back e = h

      past_guess : RoundTo P id w (again (window (g + 1) w.hi w.a w.b))
      unfolding RoundTo
      past_guess = record { between = record { lower = b.lower; upper = b.upper }; less = omega arith; top = omega arith }

      walk_to : (d : ℕ) → w.lo + d ≤ g → RoundTo P id w (walk log id w g d)
      walk_to zero u =
          rw (walk_at log id w g zero w.lo (omega arith))
          (turned_to w.lo (omega arith) (omega arith) _ past_guess _ refl)
      walk_to (suc d) u =
          rw (walk_at log id w g (suc d) (w.lo + suc d) refl)
          (turned_to (w.lo + suc d) (omega arith) u _ (walk_to d (omega arith)) _ refl)

    round_to : (g : ℕ) → InWindow w g → RoundTo P id w (round_from log id w g)
    round_to g i = walk_to g i.low i.high (g - w.lo) (omega (arith, i.low))

  -- and so the rounds answer, if P holds of absent at every page and at the end
  module _ (of_end : (page : ℕ) → page ≤ page_count log → P (absent (page * page_size))) where
    followed : (k : ℕ) (w : Window) → w.hi ≤ page_count log → (x : Round Looking Window) → RoundTo P id w x
        → ((v : Window) → Between id v → v.hi ≤ page_count log → P (search log id k v)) → P (follow (search log id k) x)
    unfolding RoundTo
    followed k w t (stop r) h rest = h
    followed k w t (again v) h rest = rest v h.between (omega (arith, h.top))

    pub search_by : (k : ℕ) (w : Window) → Between id w → w.hi ≤ page_count log → P (search log id k w)
    unfolding search
    search_by zero w b t = of_end w.hi t
    search_by (suc k) w b t = ⊎_elim
        (λ l. subst P (sym (search_round log id w k l)) (followed k w t (round_from log id w (guess_in id w)) (round_to w b (guess_in id w) (guess_inside id w l)) (λ v c u. search_by k v c u)))
        (λ l. subst P (sym (search_empty log id w (suc k) l)) (of_end w.hi t))
        (side w.lo w.hi)

-- a round that goes on leaves a smaller window, whatever page it guessed
pub round_smaller : (log : List ℕ) (id : ℕ) (w : Window) → Between id w → (g : ℕ) → InWindow w g → (v : Window) → round_from log id w g ≡ again v → Smaller id w v
unfolding RoundTo
round_smaller log id w b g i v e = rw e at (round_to log id (λ r. Unit {0}) (λ s r q. tt) w b g i)

pub page_answers : (log : List ℕ) (id s : ℕ) (r : Looking) → saying_at log id s ≡ ends r → PageEnds log id r
page_answers log id s r e = subst (Truly log id) e (says_truly log id s)
