-- A step's way forward: what each page says to it, that it goes on to a later page, and what the loop over the pages keeps. Assumes nothing.
use Prim.Native.Nat.{ℕ, zero, suc, ◌+◌, ◌≤◌, ◌<◌}
use mathlib.Core.Path.{◌≡◌, refl, sym, ◌∙◌, subst}
use mathlib.Core.Bool.{true, false}
use mathlib.Core.Logic.{⊎_elim}
use mathlib.Core.List.{List}
use native.Mathlib.Omega.{arith}
use borrow.Author.Tests.{lt-ltb, le-ltb}
use lib.ListN.{length}
use Rattle.page.specs.Size.{id_size, pages_for_data, page_count}
use Rattle.page.specs.Mark.{mark_at}
use Rattle.page.specs.Entry.{Starting, short, cut, whole, length_at, id_at, data_length_at, entry_at}
use Rattle.page.proofs.Marking.{IsBad, mark_cases, by_start, by_later, by_bad}
use Rattle.page.proofs.Starting.{IsWhole, is_whole, after_data, after_start}
use Rattle.catalog.specs.Round.{Round, stop, again}
use Rattle.scanning.specs.Range.{holds_of}
use Rattle.scanning.specs.Step.{Reaching, reached, ended, faulty, step_start, step_page, forward, forward_from}
use Rattle.scanning.specs.declared.range.Range.{Range}
use Rattle.refusal.proofs.Cases.{side, which}

-- ---- what a page says

module _ (log : List ℕ) (range : Range) (p : ℕ) where
  module _ (id len after : ℕ) (e : entry_at log p ≡ whole id len after) where
    pub step_in : holds_of range id ≡ true → stop (reached p id len after) ≡ step_start range p (entry_at log p)
    unfolding step_start
    step_in h = rw (e, h)

    pub step_out : holds_of range id ≡ false → (x : Round Reaching ℕ) → x ≡ again after → x ≡ step_start range p (entry_at log p)
    unfolding step_start
    step_out h x n = rw (e, h, n)

  pub step_page_start : mark_at log p ≡ 1 → step_start range p (entry_at log p) ≡ step_page log range p
  unfolding step_page
  step_page_start m = rw (by_start (mark_at log p) _ _ _ m)

  step_page_bad : IsBad (mark_at log p) → stop (faulty 5 p) ≡ step_page log range p
  unfolding step_page
  step_page_bad m = rw (by_bad (mark_at log p) _ _ _ m)

  pub step_page_later : (q : ℕ) → q ≡ p + 1 → mark_at log p ≡ 0 → again q ≡ step_page log range p
  unfolding step_page
  step_page_later q n m = rw (by_later (mark_at log p) _ _ _ m, n)

-- ---- on to a later page, or to an entry of the range within the log

pub record ReachedEntry (log : List ℕ) (range : Range) (page id len after : ℕ) : Type 0 where
  pub inside : holds_of range id ≡ true
  pub marked : mark_at log page ≡ 1
  pub long : id_size ≤ length_at log page
  pub id_is : id ≡ id_at log page
  pub len_is : len ≡ data_length_at log page
  pub room : page + pages_for_data len ≤ page_count log
  pub within : after ≤ page_count log

abbrev StepReaches : List ℕ → Range → Reaching → Type 0
StepReaches log range (reached page id len after) = ReachedEntry log range page id len after
StepReaches log range (ended cursor) = Unit {0}
StepReaches log range (faulty number value) = Unit {0}

abbrev StepSays : List ℕ → Range → ℕ → Round Reaching ℕ → Type 0
StepSays log range p (stop r) = StepReaches log range r
StepSays log range p (again q) = p < q

module _ (log : List ℕ) (range : Range) (p : ℕ) where
  start_says : mark_at log p ≡ 1 → (x : Starting) → entry_at log p ≡ x → StepSays log range p (step_start range p x)
  unfolding step_start
  start_says m short e = tt
  start_says m (cut id) e = tt
  start_says m (whole id len after) e = ⊎_elim
      (λ (h : holds_of range id ≡ true). rw h (record { inside = h; marked = m; long = w.long; id_is = w.id_is; len_is = w.len_is; room = room; within = w.within }))
      (λ (h : holds_of range id ≡ false). rw h (omega (arith, w.after_is, after_start log p)))
      (which (holds_of range id))
    where
      w : IsWhole log p id len after
      w = is_whole e

      room : p + pages_for_data len ≤ page_count log
      room = rw w.len_is (omega (arith, w.within, w.after_is, after_data log p w.long))

  step_page_says : StepSays log range p (step_page log range p)
  step_page_says = ⊎_elim
      (λ (m : mark_at log p ≡ 1). rw (← step_page_start log range p m) (start_says m (entry_at log p) refl))
      (⊎_elim
      (λ (m : mark_at log p ≡ 0). rw (← step_page_later log range p (p + 1) refl m) (omega arith))
      (λ (m : IsBad (mark_at log p)). rw (← step_page_bad log range p m) tt))
      (mark_cases (mark_at log p))

  pub again_later : (q : ℕ) → again q ≡ step_page log range p → p < q
  again_later q e = subst (StepSays log range p) (sym e) step_page_says

-- ---- the rounds

module _ (log : List ℕ) (range : Range) where
  pub forward_end : (k p : ℕ) → page_count log ≤ p → ended (length log) ≡ forward log range k p
  unfolding forward
  forward_end zero p h = refl
  forward_end (suc k) p h = rw (le-ltb p (page_count log) h)

  module _ (k p : ℕ) (h : p < page_count log) where
    pub forward_stop : (r : Reaching) → stop r ≡ step_page log range p → r ≡ forward log range (suc k) p
    unfolding forward
    forward_stop r e = rw (lt-ltb p (page_count log) h, ← e)

    pub forward_again : (q : ℕ) → again q ≡ step_page log range p → forward log range k q ≡ forward log range (suc k) p
    unfolding forward
    forward_again q e = rw (lt-ltb p (page_count log) h, ← e)

  forward_none : (p : ℕ) → ended (length log) ≡ forward log range 0 p
  unfolding forward
  forward_none p = refl

  round_reaches : (k p : ℕ) → p < page_count log → ((q : ℕ) → StepReaches log range (forward log range k q))
      → (x : Round Reaching ℕ) → x ≡ step_page log range p → StepSays log range p x → StepReaches log range (forward log range (suc k) p)
  round_reaches k p l rest (stop r) e s = rw (← forward_stop k p l r e) s
  round_reaches k p l rest (again q) e s = rw (← forward_again k p l q e) (rest q)

  forward_reaches : (k p : ℕ) → StepReaches log range (forward log range k p)
  forward_reaches zero p = rw (← forward_none p) tt
  forward_reaches (suc k) p = ⊎_elim
      (λ l. round_reaches k p l (forward_reaches k) (step_page log range p) refl (step_page_says log range p))
      (λ l. rw (← forward_end (suc k) p l) tt)
      (side p (page_count log))

  pub reached_entry : (from page id len after : ℕ) → reached page id len after ≡ forward_from log range from → ReachedEntry log range page id len after
  unfolding forward_from
  reached_entry from page id len after e = subst (StepReaches log range) (sym e) (forward_reaches (page_count log) from)

-- ---- what holds at the head of the loop: the rounds from here end as those from the first page

pub record ForwardLoop (log : List ℕ) (range : Range) (from p : ℕ) : Type 0 where
  pub fuel : ℕ
  pub enough : page_count log ≤ p + fuel
  pub same : forward log range fuel p ≡ forward_from log range from

pub forward_begins : (log : List ℕ) (range : Range) (from p : ℕ) → p ≡ from → ForwardLoop log range from p
unfolding forward_from
forward_begins log range from p e = rw e (record { fuel = page_count log; enough = omega arith; same = refl })

module _ {log : List ℕ} {range : Range} {from p : ℕ} (g : ForwardLoop log range from p) where
  pub forward_over : page_count log ≤ p → ended (length log) ≡ forward_from log range from
  forward_over h = forward_end log range g.fuel p h ∙ g.same

  module _ (h : p < page_count log) where
    pub forward_stopped : (r : Reaching) → stop r ≡ step_page log range p → r ≡ forward_from log range from
    forward_stopped r e = go g.fuel g.enough g.same
      where
        go : (k : ℕ) → page_count log ≤ p + k → forward log range k p ≡ forward_from log range from → r ≡ forward_from log range from
        go zero m s = absurd (omega arith)
        go (suc k) m s = forward_stop log range k p h r e ∙ s

    pub forward_onward : (q : ℕ) → again q ≡ step_page log range p → ForwardLoop log range from q
    forward_onward q e = go g.fuel g.enough g.same
      where
        go : (k : ℕ) → page_count log ≤ p + k → forward log range k p ≡ forward_from log range from → ForwardLoop log range from q
        go zero m s = absurd (omega arith)
        go (suc k) m s = record { fuel = k; enough = omega (arith, again_later log range p q e); same = forward_again log range k p h q e ∙ s }

-- a turn of the loop: each way out of it, and on
pub ruleset forward_turn = (forward_stopped, forward_onward, again_later)
