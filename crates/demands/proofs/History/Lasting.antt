-- The right answer for an id at most the last one stored stays right after the log grew, with its data. Assumes nothing.
use Prim.Native.Nat.{ℕ, ◌+◌, ◌/◌, ◌≤◌, ◌<◌}
use mathlib.Core.Path.{◌≡◌, refl, ap, ◌∙◌}
use mathlib.Core.Logic.{inr, ⊎_elim}
use mathlib.Core.List.{List, [], ◌++◌}
use native.Mathlib.Omega.{arith}
use lib.ListN.{length, drop}
use Rattle.refusal.proofs.Cases.{side}
use Rattle.page.specs.Size.{page_size, pages_for_data, page_count}
use Rattle.page.specs.Entry.{id_at}
use Rattle.page.specs.Data.{data_at}
use Rattle.page.proofs.Growing.{length_kept, id_kept, data_kept}
use Rattle.page.proofs.Placing.{length_data}
use Rattle.page.proofs.Starting.{after_data}
use Rattle.catalog.specs.Output.{WithOutput}
use Rattle.catalog.specs.Lookup.{Looking, found, absent, refused, find_of, lookup_of}
use Rattle.catalog.proofs.Laws.Lookup.Handing.{found_copied, absent_nothing}
use Rattle.demands.specs.Sound.{Start, Sound, Stored, Missing}
use Rattle.demands.specs.Lookup.{Standing, present, missing, unsaid, standing, RightStanding}
use Rattle.demands.specs.History.{World, log_of, push, take_id, raise, find, lookup, scan, step_on, recover, lend, cut_log, answer, ExactlyStored, LooksUp, Answers}
use Rattle.demands.proofs.Push.Appending.{start_kept, start_back}

module _ (log x : List ℕ) (t : Sound (log ++ x)) (id q : ℕ) (h : Start log q) (most : id ≤ id_at log q) where
  stored_grows : (position len : ℕ) → Stored log id position len → Stored (log ++ x) id position len
  stored_grows position len f =
      let i = f.start.inside in
      record {
        page = f.page;
        start = start_kept log x f.page f.start;
        has = id_kept log x f.page i ∙ f.has;
        at_page = f.at_page;
        size = f.size ∙ rw (length_kept log x f.page i);
      }

  -- the first greater entry is one of the log's, since its last entry is as great
  missing_start : (position : ℕ) (m : Missing log id position) → Start log m.page
  missing_start position m = ⊎_elim (λ e. absurd (omega (arith, m.below q h (omega (arith, h.inside))))) (λ s. s) m.edge

  missing_grows : (position : ℕ) → Missing log id position → Missing (log ++ x) id position
  missing_grows position m =
      let i = (missing_start position m).inside in
      record {
        page = m.page;
        at_page = m.at_page;
        edge = inr (start_kept log x m.page (missing_start position m));
        below = λ p s l.
            let k : p < page_count log = omega arith in
            omega (arith, id_kept log x p k, m.below p (start_back log x p k s) l);
        above = λ p s l. ⊎_elim
            (λ k. omega (arith, id_kept log x p k, m.above p (start_back log x p k s) l))
            (λ k. omega (arith, t.rising q p (start_kept log x q h) s (omega (arith, h.inside)), id_kept log x q h.inside))
            (side p (page_count log));
      }

  pub right_grows : (r : Standing) → RightStanding log id r → RightStanding (log ++ x) id r
  right_grows (present position len) f = stored_grows position len f
  right_grows (missing position) m = missing_grows position m
  right_grows unsaid f = f

-- the data that goes with a standing
unfoldable pub standing_data : List ℕ → Standing → List ℕ
standing_data log (present position len) = data_at log (position / page_size) len
standing_data log (missing position) = []
standing_data log unsaid = []

page_of_lem : {log : List ℕ} {id position len : ℕ} (f : Stored log id position len) → position / page_size ≡ f.page
page_of_lem f = omega (arith, f.at_page)

pub data_grows : (log x : List ℕ) → Sound log → (id : ℕ) (r : Standing) → RightStanding log id r → standing_data (log ++ x) r ≡ standing_data log r
unfolding standing_data
data_grows log x s id (present position len) f =
    let e : f.page + pages_for_data len ≤ page_count log = rw f.size (omega (arith, after_data log f.page (s.long f.page f.start), s.within f.page f.start)) in
    data_kept log x (position / page_size) len (rw (page_of_lem f) e)
data_grows log x s id (missing position) f = refl
data_grows log x s id unsaid f = refl

pub right_exact : (log : List ℕ) (id : ℕ) (r : Standing) → RightStanding log id r → ExactlyStored log id r (standing_data log r)
unfolding standing_data
right_exact log id (present position len) f = (f, rw (page_of_lem f), length_data log (position / page_size) len)
right_exact log id (missing position) f =
    (λ p h e. ⊎_elim (λ m. omega (arith, f.below p h m)) (λ m. omega (arith, f.above p h m)) (side p f.page), refl)
right_exact log id unsaid f = f

-- ---- what a lookup with enough output answers and leaves

module _ (w : World) (id : ℕ) where
  abbrev Left : List ℕ → Looking → Type 0
  Left out r = (standing (lookup_of w.store w.state id out).answer ≡ standing r) × ((lookup_of w.store w.state id out).out ≡ standing_data (log_of w) (standing r) ++ drop (length (standing_data (log_of w) (standing r))) out)

  lookup_leaves : (out : List ℕ) (r : Looking) → find_of w.store w.state id ≡ r → RightStanding (log_of w) id (standing r) → length (standing_data (log_of w) (standing r)) ≤ length out → Left out r
  unfolding standing_data
  lookup_leaves out (found position len) e f enough =
      let n = length_data (log_of w) (position / page_size) len in
      let c = found_copied w.store w.state id out position len e (position / page_size) refl (rw n at enough) in
      (ap (λ (x : WithOutput Looking). standing x.answer) c, rw n (ap (λ (x : WithOutput Looking). x.out) c))
  lookup_leaves out (absent position) e f enough =
      let c = absent_nothing w.store w.state id out position e in
      (ap (λ (x : WithOutput Looking). standing x.answer) c, ap (λ (x : WithOutput Looking). x.out) c)
  lookup_leaves out (refused number value) e f enough = absurd f

  looks_up : (out : List ℕ) → RightStanding (log_of w) id (standing (find_of w.store w.state id)) → length (standing_data (log_of w) (standing (find_of w.store w.state id))) ≤ length out
      → LooksUp (answer w (lookup id out)) (standing (find_of w.store w.state id))
      (standing_data (log_of w) (standing (find_of w.store w.state id)) ++ drop (length (standing_data (log_of w) (standing (find_of w.store w.state id)))) out)
  unfolding answer
  looks_up out f enough =
      let l = lookup_leaves out (find_of w.store w.state id) refl f enough in
      record { look = lookup_of w.store w.state id out; is = refl; stands = l.0; leaves = l.1 }

gives_lookup : (w : World) (id : ℕ) (r : Standing) → standing (find_of w.store w.state id) ≡ r → RightStanding (log_of w) id r → (i : ℕ) (out : List ℕ) → i ≡ id
    → length (standing_data (log_of w) r) ≤ length out → LooksUp (answer w (lookup i out)) r (standing_data (log_of w) r ++ drop (length (standing_data (log_of w) r)) out)
gives_lookup w id r e f i out q enough = rw (q, ← e) (looks_up w id out (rw e f) (rw e enough))

-- where the standing is right, every call that looks for the id gives it
pub right_answers : (w : World) (id : ℕ) (r : Standing) → standing (find_of w.store w.state id) ≡ r → RightStanding (log_of w) id r → Answers w id r (standing_data (log_of w) r)
unfolding answer
right_answers w id r e f (push ids ends bytes words) = tt
right_answers w id r e f take_id = tt
right_answers w id r e f (raise by) = tt
right_answers w id r e f (find i) = λ q. record { look = find_of w.store w.state i; is = refl; stands = rw q e }
right_answers w id r e f (lookup i out) = λ q enough. gives_lookup w id r e f i out q enough
right_answers w id r e f (scan range) = tt
right_answers w id r e f (step_on range cursor out) = tt
right_answers w id r e f (recover stored) = tt
right_answers w id r e f (lend rest) = tt
right_answers w id r e f (cut_log n stored rest) = tt
