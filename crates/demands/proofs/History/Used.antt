-- 11.11: used ids stay used. Assumes nothing.
use Prim.Native.Nat.{ℕ, ◌≤◌, ◌<◌}
use mathlib.Core.Path.{◌≡◌, refl, ap, ◌∙◌}
use mathlib.Core.Logic.{◌⊎◌, inl, inr, ⊎_elim}
use mathlib.Core.List.{List, [], ◌∷◌}
use native.Mathlib.Omega.{arith}
use lib.ListN.{length}
use Rattle.catalog.specs.declared.state.State.{State}
use Rattle.demands.specs.Push.{Holds}
use Rattle.demands.specs.History.{World, log_of, Call, answer, step, run, Said, heard, said, Begun}
use Rattle.demands.specs.Used.{HandsOut, Pushes, Finds, Some, InTurn, last_answered, HandedBefore, PushedOnce, StoredAbove, StoredLast, PushedBefore, HandedOnce, UsedOnce}
use Rattle.demands.proofs.Last.{last_stored_greatest}
use Rattle.demands.proofs.Push.Origin.{holds_once}
use Rattle.demands.proofs.History.Living.{Lives}
use Rattle.demands.proofs.History.Moving.{lives_step}
use Rattle.demands.proofs.History.Demands.{begun_lives, resumed}
use Rattle.demands.proofs.History.Counting.{state_answered, Risen, call_risen, given_less, hands_next}
use Rattle.demands.proofs.History.Finding.{comes_from, pushed_held, finds_held, reads_held}

-- ---- with a high enough ceiling at each recovery

-- where a history stands that began with that state, after what was said
record SoFar (first : State) (before : List Said) (w : World) : Type 0 where
  pub lives : Lives w
  pub answered : last_answered first before ≡ w.state
  pub under : w.state.next ≤ w.state.ceiling
  pub rises : first.next ≤ w.state.next
  -- what was handed out lies from the first next to below this one
  pub handed : (id : ℕ) → Some (HandsOut id) before → (first.next ≤ id) × (id < w.state.next)
  -- what the log holds, or a call found, was there at first or was pushed
  pub holds : (id : ℕ) (d : List ℕ) → Holds (log_of w) id d → (id < first.next) ⊎ Some (Pushes id d) before
  pub found : (id len : ℕ) → Some (Finds id len) before → (id < first.next) ⊎ PushedBefore id before

-- at the beginning no id of the log is at or above next
begins : (w : World) → Begun w → SoFar w.state [] w
begins w b =
    let r = resumed w b in
    let i = begun_lives w b in
    record {
      lives = i;
      answered = refl;
      under = omega (arith, r.ceiling);
      rises = omega arith;
      handed = λ id h. absurd h;
      holds = λ id d h. inl (omega (arith, last_stored_greatest (log_of w) i.good.sound w.state.last i.last h.page h.start, h.has, r.next));
      found = λ id len f. absurd f;
    }

module _ (first : State) (before : List Said) (w : World) (k : SoFar first before w) (c : Call) where
  abbrev x : Said
  x = heard w c

  found_here : (id len : ℕ) → Finds id len x → (id < first.next) ⊎ PushedBefore id before
  found_here id len f =
      let h = finds_held w c id len f in
      ⊎_elim inl (λ p. inr (record { data_is = h.data_is; some = p })) (k.holds id h.data_is h.held)

  -- an id that is handed out is next, and all before it are below
  new_here : (id : ℕ) → HandsOut id x → Some (HandsOut id) before → ⊥
  new_here id h o = omega (arith, (hands_next w id h.state c h.is).is, (k.handed id o).1)

  handed_once_here : HandedOnce before x
  handed_once_here = record {
    new = new_here;
    pushed = λ id len f o. ⊎_elim (λ l. absurd (omega (arith, l, (k.handed id o).0))) (λ p. p) (found_here id len f);
  }

  -- the ceiling answered last is high enough
  last_here : StoredLast first before x → StoredAbove first before x
  last_here = given_less _ _ (rw k.answered k.under) c

  module _ (g : StoredAbove first before x) where
    risen : Risen w.state (step w c).state
    risen = call_risen w k.lives k.under c (rw k.answered at g)

    handed_here : (id : ℕ) → HandsOut id x → (first.next ≤ id) × (id < (step w c).state.next)
    handed_here id h = let n = hands_next w id h.state c h.is in (omega (arith, n.is, k.rises), omega (arith, n.after))

    answered_here : last_answered first (x ∷ before) ≡ (step w c).state
    unfolding step
    answered_here = rw k.answered (state_answered w (answer w c))

    -- what was pushed before was so a call later too
    later : {id : ℕ} → (id < first.next) ⊎ PushedBefore id before → (id < first.next) ⊎ PushedBefore id (x ∷ before)
    later = ⊎_elim inl (λ p. inr (record { data_is = p.data_is; some = inr p.some }))

    goes_on : SoFar first (x ∷ before) (step w c)
    goes_on = record {
      lives = lives_step w k.lives c;
      answered = answered_here;
      under = risen.under;
      rises = omega (arith, k.rises, risen.rises);
      handed = λ id. ⊎_elim (handed_here id) (λ o. let h = k.handed id o in (h.0, omega (arith, h.1, risen.rises)));
      holds = λ id d h. ⊎_elim (λ g. ⊎_elim inl (λ p. inr (inr p)) (k.holds id d g)) (λ p. inr (inl p)) (comes_from w k.lives id d c h);
      found = λ id len. ⊎_elim (λ f. later (found_here id len f)) (λ f. later (k.found id len f));
    }

-- ---- THEOREM: the ceiling that was answered last is at or above next

last_from : (first : State) (before : List Said) (w : World) → SoFar first before w → (calls : List Call)
    → InTurn (StoredLast first) before (said w calls) → InTurn (StoredAbove first) before (said w calls)
unfolding said
last_from first before w k [] l = tt
last_from first before w k (c ∷ cs) l =
    let g = last_here first before w k c l.0 in
    (g, last_from first (heard w c ∷ before) (step w c) (goes_on first before w k c g) cs l.1)

pub last_answered_enough : (w : World) → Begun w → (calls : List Call) → InTurn (StoredLast w.state) [] (said w calls) → InTurn (StoredAbove w.state) [] (said w calls)
last_answered_enough w b = last_from w.state [] w (begins w b)

-- ---- THEOREM: no id is handed out twice, and one that is found was pushed

handed_from : (first : State) (before : List Said) (w : World) → SoFar first before w → (calls : List Call)
    → InTurn (StoredAbove first) before (said w calls) → InTurn HandedOnce before (said w calls)
unfolding said
handed_from first before w k [] g = tt
handed_from first before w k (c ∷ cs) g =
    (handed_once_here first before w k c, handed_from first (heard w c ∷ before) (step w c) (goes_on first before w k c g.0) cs g.1)

pub handed_once : (w : World) → Begun w → (calls : List Call) → InTurn (StoredAbove w.state) [] (said w calls) → InTurn HandedOnce [] (said w calls)
handed_once w b = handed_from w.state [] w (begins w b)

-- ---- THEOREM: an id that was handed out and not pushed is found by no lookup, at any point

-- all that was said, the latest first
onto : List Said → List Said → List Said
onto before [] = before
onto before (x ∷ later) = onto (x ∷ before) later

module _ (P : Said → Type 0) where
  some_before : (before later : List Said) → Some P before → Some P (onto before later)
  unfolding onto
  some_before before [] s = s
  some_before before (x ∷ later) s = some_before (x ∷ before) later (inr s)

  some_later : (before later : List Said) → Some P later → Some P (onto before later)
  unfolding onto
  some_later before [] s = absurd s
  some_later before (x ∷ later) (inl s) = some_before (x ∷ before) later (inl s)
  some_later before (x ∷ later) (inr s) = some_later (x ∷ before) later s

  either_of : (before later : List Said) → Some P (onto before later) → Some P before ⊎ Some P later
  unfolding onto
  either_of before [] s = inl s
  either_of before (x ∷ later) s = ⊎_elim (⊎_elim (λ a. inr (inl a)) inl) (λ a. inr (inr a)) (either_of (x ∷ before) later s)

so_far_run : (first : State) (before : List Said) (w : World) → SoFar first before w → (calls : List Call)
    → InTurn (StoredAbove first) before (said w calls) → SoFar first (onto before (said w calls)) (run w calls)
unfolding said run onto
so_far_run first before w k [] g = k
so_far_run first before w k (c ∷ cs) g = so_far_run first (heard w c ∷ before) (step w c) (goes_on first before w k c g.0) cs g.1

pub dropped_never_found : (w : World) → Begun w → (calls : List Call) → InTurn (StoredAbove w.state) [] (said w calls)
    → (id len : ℕ) → Some (HandsOut id) (said w calls) → ((d : List ℕ) → Some (Pushes id d) (said w calls) → ⊥) → Some (Finds id len) (said w calls) → ⊥
dropped_never_found w b calls g id len handed unpushed found =
    let k = so_far_run w.state [] w (begins w b) calls g in
    ⊎_elim
    (λ l. omega (arith, l, (k.handed id (some_later (HandsOut id) [] (said w calls) handed)).0))
    (λ p. ⊎_elim (λ none. none) (unpushed p.data_is) (either_of (Pushes id p.data_is) [] (said w calls) p.some))
    (k.found id len (some_later (Finds id len) [] (said w calls) found))

-- ---- if ids are also pushed only once they were handed out, and once

record Disciplined (before : List Said) : Type 0 where
  pub handed : (id : ℕ) (d : List ℕ) → Some (Pushes id d) before → Some (HandsOut id) before
  pub once : (id : ℕ) (d e : List ℕ) → Some (Pushes id d) before → Some (Pushes id e) before → d ≡ e

module _ (first : State) (before : List Said) (w : World) (k : SoFar first before w) (m : Disciplined before) (c : Call) where
  abbrev this : Said
  this = heard w c

  -- what is held of an id that was handed out is what its push wrote
  own : (id : ℕ) (d e : List ℕ) → Holds (log_of w) id d → Some (HandsOut id) before → Some (Pushes id e) before → d ≡ e
  own id d e h o p = ⊎_elim (λ l. absurd (omega (arith, l, (k.handed id o).0))) (λ q. m.once id d e q p) (k.holds id d h)

  used_here : UsedOnce before this
  used_here = record {
    handed = handed_once_here first before w k c;
    unpushed = λ id d h p. new_here first before w k c id h (m.handed id d p);
    unfound = λ id len h f. ⊎_elim
        (λ l. omega (arith, l, (hands_next w id h.state c h.is).is, k.rises))
        (λ p. new_here first before w k c id h (m.handed id p.data_is p.some))
        (k.found id len f);
    same = λ id d e r o p. own id d e (reads_held w c id d r) o p;
    sized = λ id len e f o p. let h = finds_held w c id len f in h.size ∙ ap (λ (l : List ℕ). length l) (own id h.data_is e h.held o p);
  }

  module _ (a : HandedBefore before this) (b : PushedOnce before this) where
    -- of two entries with one id that a push counts there is one data: both are in the log after it
    once_here : (id : ℕ) (d e : List ℕ) → Some (Pushes id d) (this ∷ before) → Some (Pushes id e) (this ∷ before) → d ≡ e
    once_here id d e (inl p) (inl q) =
        let i = lives_step w k.lives c in
        holds_once (log_of (step w c)) i.good.sound id d e (pushed_held w k.lives id d c p) (pushed_held w k.lives id e c q)
    once_here id d e (inl p) (inr q) = absurd (b.once id d e p q)
    once_here id d e (inr p) (inl q) = absurd (b.once id e d q p)
    once_here id d e (inr p) (inr q) = m.once id d e p q

    stays_disciplined : Disciplined (this ∷ before)
    stays_disciplined = record { handed = λ id d. ⊎_elim (λ p. inr (a.handed id d p)) (λ p. inr (m.handed id d p)); once = once_here }

-- ---- THEOREM: used ids stay used

used_from : (first : State) (before : List Said) (w : World) → SoFar first before w → Disciplined before → (calls : List Call)
    → InTurn HandedBefore before (said w calls) → InTurn PushedOnce before (said w calls) → InTurn (StoredAbove first) before (said w calls) → InTurn UsedOnce before (said w calls)
unfolding said
used_from first before w k m [] a b g = tt
used_from first before w k m (c ∷ cs) a b g = (
  used_here first before w k m c,
  used_from first (heard w c ∷ before) (step w c) (goes_on first before w k c g.0) (stays_disciplined first before w k m c a.0 b.0) cs a.1 b.1 g.1,
)

pub used_once : (w : World) → Begun w → (calls : List Call)
    → InTurn HandedBefore [] (said w calls) → InTurn PushedOnce [] (said w calls) → InTurn (StoredAbove w.state) [] (said w calls) → InTurn UsedOnce [] (said w calls)
used_once w b = used_from w.state [] w (begins w b) (record { handed = λ id d p. absurd p; once = λ id d e p q. absurd p })
