-- What the loops of `search` keep: the rounds that are left answer as the whole search, and the pages that are left as the walk from the guess. Assumes nothing.
use Prim.Native.Nat.{ℕ, zero, suc, ◌+◌, ◌-◌, ◌*◌, ◌≤◌, ◌<◌, max}
use mathlib.Core.Path.{◌≡◌, sym, ◌∙◌}
use mathlib.Core.List.{List}
use native.Mathlib.Omega.{arith}
use Rattle.page.specs.Size.{page_size, page_count}
use Rattle.catalog.specs.Round.{stop, again}
use Rattle.catalog.specs.Lookup.{Looking, absent, Saying, ends, below, above, back, saying_at, Window, window, turned, round_from, guess_in, search, search_of}
use Rattle.catalog.proofs.Laws.Lookup.Tests.{search_all}
use Rattle.catalog.proofs.Laws.Lookup.Rounds.{Between, Smaller, round_smaller, rest_of, walk_at, search_empty, search_round, guess_inside}

-- at the head of the window loop
pub record WindowLoop (log : List ℕ) (next id : ℕ) (w : Window) : Type 0 where
  pub between : Between id w
  pub top : w.hi ≤ page_count log
  pub fuel : ℕ
  pub enough : w.hi ≤ w.lo + fuel
  pub same : search_of log next id ≡ search log id fuel w

pub opened : (log : List ℕ) (next id hi : ℕ) → hi ≡ page_count log → 1 ≤ id → id < next → WindowLoop log next id (window 0 hi 0 next)
opened log next id hi e some late = record {
  between = record { lower = some; upper = late };
  top = omega arith;
  fuel = page_count log;
  enough = omega arith;
  same = rw e (search_all log next id (λ z. omega arith) late);
}

module _ {log : List ℕ} {next id : ℕ} {w : Window} (h : WindowLoop log next id w) where
  pub window_empty : w.hi ≤ w.lo → absent (w.hi * page_size) ≡ search_of log next id
  window_empty l = sym (h.same ∙ search_empty log id w h.fuel l)

  pub stopped : (r : Looking) → w.lo < w.hi → stop r ≡ round_from log id w (guess_in id w) → r ≡ search_of log next id
  stopped r l e = sym (h.same ∙ go h.fuel h.enough)
    where
      go : (k : ℕ) → w.hi ≤ w.lo + k → search log id k w ≡ r
      go zero m = absurd (omega arith)
      go (suc k) m = search_round log id w k l ∙ rw (← e)

  pub narrowed : (left : Window) → w.lo < w.hi → again left ≡ round_from log id w (guess_in id w) → WindowLoop log next id left
  narrowed left l e = go h.fuel h.enough h.same
    where
      s : Smaller id w left
      s = round_smaller log id w h.between (guess_in id w) (guess_inside id w l) left (sym e)

      go : (k : ℕ) → w.hi ≤ w.lo + k → search_of log next id ≡ search log id k w → WindowLoop log next id left
      go zero m q = absurd (omega arith)
      go (suc k) m q = record {
        between = s.between;
        top = omega (arith, s.top, h.top);
        fuel = k;
        enough = omega (arith, s.less);
        same = q ∙ search_round log id w k l ∙ rw (← e);
      }

-- at the head of the walk back from the guess g: the pages below s are left
pub record BackLoop (log : List ℕ) (next id : ℕ) (w : Window) (g s : ℕ) : Type 0 where
  pub around : WindowLoop log next id w
  pub some : w.lo < w.hi
  pub low : w.lo ≤ s
  pub up : s ≤ w.hi
  pub walked : rest_of log id w g (s - w.lo) ≡ round_from log id w (guess_in id w)

pub guessed : {log : List ℕ} {next id : ℕ} {w : Window} → WindowLoop log next id w → w.lo < w.hi
    → (g past : ℕ) → g ≡ guess_in id w → past ≡ g + 1 → BackLoop log next id w g past
guessed {log} {next} {id} {w} h l g past e q =
    let i = guess_inside id w l in
    let low : w.lo ≤ g = rw e i.low in
    let high : g < w.hi = rw e i.high in
    let z : past - w.lo ≡ suc (g - w.lo) = omega arith in
    record { around = h; some = l; low = omega arith; up = omega arith; walked = rw (z, e) }

module _ {log : List ℕ} {next id : ℕ} {w : Window} {g s : ℕ} (h : BackLoop log next id w g s) where
  module _ (l : w.lo < s) where
    -- the round is what the page before s says
    turn : (x : Saying) → x ≡ saying_at log id (s - 1) → turned w g (s - 1) (rest_of log id w g (s - 1 - w.lo)) x ≡ round_from log id w (guess_in id w)
    turn x e =
        let z : s - w.lo ≡ suc (s - 1 - w.lo) = omega arith in
        rw e (sym (walk_at log id w g (s - 1 - w.lo) (s - 1) (omega arith)) ∙ rw z at h.walked)

    pub page_ends : (r : Looking) → ends r ≡ saying_at log id (s - 1) → r ≡ search_of log next id
    unfolding turned
    page_ends r e = stopped h.around r h.some (turn (ends r) e)

    pub page_below : (stored after lo' : ℕ) → below stored after ≡ saying_at log id (s - 1)
        → lo' ≡ max (g + 1) after → WindowLoop log next id (window lo' w.hi stored w.b)
    unfolding turned
    page_below stored after lo' e m = narrowed h.around _ h.some (rw m (turn (below stored after) e))

    pub page_above : (stored hi' : ℕ) → above stored ≡ saying_at log id (s - 1) → hi' ≡ s - 1 → WindowLoop log next id (window w.lo hi' w.a stored)
    unfolding turned
    page_above stored hi' e m = narrowed h.around _ h.some (rw m (turn (above stored) e))

    pub further_back : back ≡ saying_at log id (s - 1) → BackLoop log next id w g (s - 1)
    unfolding turned
    further_back e = record { around = h.around; some = h.some; low = omega arith; up = omega (arith, h.up); walked = turn back e }

  pub none_back : s ≤ w.lo → (lo' : ℕ) → lo' ≡ g + 1 → WindowLoop log next id (window lo' w.hi w.a w.b)
  none_back l lo' m =
      let z : s - w.lo ≡ 0 = omega (arith, h.low) in
      narrowed h.around _ h.some (rw m (rw z at h.walked))
