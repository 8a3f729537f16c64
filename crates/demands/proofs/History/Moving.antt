-- What every call keeps: the log stays sound, its front grows or stays as long as no cut falls into it, and an id settled by then stays settled. Assumes nothing.
use Prim.Native.Nat.{ℕ, ◌<◌}
use mathlib.Core.Path.{◌≡◌, refl, sym, ap, ◌∙◌}
use mathlib.Core.Bool.{Bool, true, false}
use mathlib.Core.Logic.{◌⊎◌, inl, inr, ⊎_elim}
use mathlib.Core.List.{List, [], ◌∷◌, ◌++◌, append-nil}
use native.Mathlib.Omega.{arith}
use lib.ListN.{length, take}
use lib.Seq.{take_at}
use Rattle.refusal.specs.Pick.{pick}
use Rattle.catalog.specs.Bounds.{too_long}
use Rattle.catalog.specs.State.{take_of}
use Rattle.catalog.specs.Raise.{raise_of}
use Rattle.pushing.specs.Push.{push_of}
use Rattle.catalog.specs.Recovery.{recover_of, excess_of}
use Rattle.catalog.specs.declared.state.State.{State}
use Rattle.catalog.proofs.Laws.Bounds.{fitting}
use Rattle.demands.specs.Sound.{Sound}
use Rattle.demands.specs.Push.{batch_pages}
use Rattle.demands.specs.Recovery.{RightRecovery}
use Rattle.demands.specs.History.{World, world, log_of, Words, Call, push, take_id, raise, find, lookup, scan, step_on, recover, lend, cut_log}
use Rattle.demands.specs.History.{another_store, answer, state_after_take, state_after_raise, state_after_recovery, step, run, Spares, AllSpare, Settled}
use Rattle.demands.proofs.Sound.{sound_good, sound_length}
use Rattle.demands.proofs.Taking.{by_take, by_raise}
use Rattle.demands.proofs.Last.{last_stored_unique, last_stored_ready}
use Rattle.demands.proofs.Push.Batch.{push_grows, push_right, push_last_stored}
use Rattle.demands.proofs.Front.{sound_front}
use Rattle.demands.proofs.Recovery.Resuming.{no_excess, recover_right, by_recovery}
use Rattle.demands.proofs.History.Living.{grows_then, Lives, Over, over_none, over_rises}
use Rattle.demands.proofs.History.Cuts.{CutLeaves, not_gone_on, gone_on, cut_leaves}

-- ---- one call that is no cut

pub record IsPush (c : Call) : Type 0 where
  pub ids : List ℕ
  pub ends : List ℕ
  pub bytes : List ℕ
  pub words : Words ids
  pub is : c ≡ push ids ends bytes words

pub record IsCut (c : Call) : Type 0 where
  pub bytes : ℕ
  pub stored : ℕ
  pub rest : List ℕ
  pub is : c ≡ cut_log bytes stored rest

-- what it leaves stands over the log before it, which only a push makes longer, and every id settled there is settled here
pub record Moved (w : World) (c : Call) (v : World) : Type 0 where
  pub over : Over (log_of w) v
  pub same : (log_of v ≡ log_of w) ⊎ IsPush c
  pub settled : (id : ℕ) → Settled w id → Settled v id

over_then : {base : List ℕ} {w v : World} {c : Call} → Over base w → Moved w c v → Over base v
over_then o m = record { lives = m.over.lives; grows = grows_then o.grows m.over.grows }

-- a recovery at the log's current length
pub recovery_right : (w : World) → Lives w → (stored : ℕ) → RightRecovery (log_of w) stored (excess_of w.state.length) 0 (recover_of w.store w.state.length stored)
recovery_right w i stored =
    let e = no_excess w.store w.state.length (sound_good i.good).whole in
    rw e at (recover_right w.store w.state.length stored i.good.fits (rw e i.good.sound))

module _ (w : World) (i : Lives w) (c : Call) where
  stays : Moved w c w
  stays = record { over = over_none w i; same = inl refl; settled = λ id h. h }

  -- next and the ceiling alone moved
  restated : (st : State) → st.length ≡ w.state.length → st.last ≡ w.state.last → ((id : ℕ) → Settled w id → id < st.next) → Moved w c (world w.store st)
  restated st e l next =
      let same : log_of (world w.store st) ≡ log_of w = ap (λ (n : ℕ). take n w.store) e in
      record {
        over = record { lives = record { good = rw e i.good; last = rw (e, l) i.last }; grows = record { more = []; is = same ∙ sym (append-nil (log_of w)) } };
        same = inl same;
        settled = λ id h. record { some = h.some; most = omega (arith, h.most); below = next id h };
      }

  take_moved : Moved w c (world w.store (state_after_take w.state (take_of w.state)))
  take_moved = by_take w.state (λ r. Moved w c (world w.store (state_after_take w.state r))) stays stays (λ l. restated _ refl refl (λ id h. omega (arith, h.below)))

  raise_moved : (by : ℕ) → Moved w c (world w.store (state_after_raise w.state (raise_of w.state by)))
  raise_moved by = by_raise w.state by (λ r. Moved w c (world w.store (state_after_raise w.state r))) stays (restated _ refl refl (λ id h. h.below))

  recovery_moved : (stored : ℕ) → Moved w c (world w.store (state_after_recovery w.state (recover_of w.store w.state.length stored)))
  recovery_moved stored = by_recovery (λ r. Moved w c (world w.store (state_after_recovery w.state r))) stays
      (λ st h.
      let e = last_stored_unique (log_of w) st.last w.state.last h.last i.last in
      restated st (h.size ∙ sound_length i.good) e (λ id s. omega (arith, h.next, e, s.most)))
      (recover_of w.store w.state.length stored) (recovery_right w i stored)

  lent_moved : (rest : List ℕ) → Moved w c (world (another_store w rest) w.state)
  unfolding another_store
  lent_moved rest = go (too_long (log_of w ++ rest) w.state.length) refl
    where
      go : (t : Bool) → too_long (log_of w ++ rest) w.state.length ≡ t → Moved w c (world (pick t w.store (log_of w ++ rest)) w.state)
      go true e = stays
      go false e =
          let same : take w.state.length (log_of w ++ rest) ≡ log_of w = take_at (log_of w) rest w.state.length (sound_length i.good) in
          record {
            over = record {
              lives = record { good = record { fits = fitting (log_of w ++ rest) w.state.length e; sound = rw same i.good.sound }; last = rw same i.last };
              grows = record { more = []; is = same ∙ sym (append-nil (log_of w)) };
            };
            same = inl same;
            settled = λ id h. record { some = h.some; most = h.most; below = h.below };
          }

module _ (w : World) (i : Lives w) where
  push_moved : (ids ends bytes : List ℕ) (words : Words ids)
      → Moved w (push ids ends bytes words) (world (push_of w.store w.state ids ends bytes).store (push_of w.store w.state ids ends bytes).answer.state)
  push_moved ids ends bytes words =
      let g = push_grows w.store w.state ids ends bytes in
      let more = batch_pages ids ends bytes (push_of w.store w.state ids ends bytes).answer.written in
      let good = (push_right ids ends bytes words w.store w.state (last_stored_ready w.store w.state i.good i.last)).ready.good in
      let last = push_last_stored ids ends bytes words w.store w.state i.good i.last in
      let over : Over (log_of w) (world (push_of w.store w.state ids ends bytes).store (push_of w.store w.state ids ends bytes).answer.state) =
      record { lives = record { good = good; last = last }; grows = record { more = more; is = g.log } } in
      record {
        over = over;
        same = inr (record { ids = ids; ends = ends; bytes = bytes; words = words; is = refl });
        settled = λ id h. record { some = h.some; most = omega (arith, h.most, over_rises w i over); below = omega (arith, h.below, g.next) };
      }

  pub moved : (c : Call) → Moved w c (step w c) ⊎ IsCut c
  unfolding step answer
  moved (push ids ends bytes words) = inl (push_moved ids ends bytes words)
  moved take_id = inl (take_moved w i take_id)
  moved (raise by) = inl (raise_moved w i (raise by) by)
  moved (find id) = inl (stays w i (find id))
  moved (lookup id out) = inl (stays w i (lookup id out))
  moved (scan range) = inl (stays w i (scan range))
  moved (step_on range cursor out) = inl (stays w i (step_on range cursor out))
  moved (recover stored) = inl (recovery_moved w i (recover stored) stored)
  moved (lend rest) = inl (lent_moved w i (lend rest) rest)
  moved (cut_log n stored rest) = inr (record { bytes = n; stored = stored; rest = rest; is = refl })

-- ---- any call, as long as no cut falls into what stands below

module _ (base : List ℕ) (sound : Sound base) where
  cut_over : {w v : World} {stored : ℕ} → Over base w → CutLeaves base w stored v → Over base v
  cut_over o not_gone_on = o
  cut_over o (gone_on v p resumed front) = p

  over_step : (w : World) → Over base w → (c : Call) → Spares (length base) c → Over base (step w c)
  over_step w o c spares = ⊎_elim
      (over_then o)
      (λ k. rw k.is (cut_over o (cut_leaves base sound w o k.bytes (rw k.is at spares) k.stored k.rest)))
      (moved w o.lives c)

  pub over_run : (w : World) → Over base w → (cs : List Call) → AllSpare (length base) cs → Over base (run w cs)
  unfolding run
  over_run w o [] spare = o
  over_run w o (c ∷ cs) spare = over_run (step w c) (over_step w o c spare.0) cs spare.1

-- an id that was settled over that log, from any world in which it still is
module _ (v : World) (i : Lives v) (id : ℕ) (h : Settled v id) where
  size : length (log_of v) ≡ v.state.length
  size = sound_length i.good

  -- a recovered state has a last id at or above that of the front, and next is above it
  cut_settled : {w u : World} {stored : ℕ} → Settled w id → CutLeaves (log_of v) w stored u → Settled u id
  cut_settled k not_gone_on = k
  cut_settled k (gone_on u o resumed front) =
      let rises = over_rises v i o in
      record { some = h.some; most = omega (arith, h.most, rises); below = omega (arith, h.most, rises, resumed.next) }

  settled_step : (w : World) → Over (log_of v) w → Settled w id → (c : Call) → Spares v.state.length c → Settled (step w c) id
  settled_step w o k c spares = ⊎_elim
      (λ m. m.settled id k)
      (λ j. rw j.is (cut_settled k (cut_leaves (log_of v) i.good.sound w o j.bytes (rw (j.is, ← size) at spares) j.stored j.rest)))
      (moved w o.lives c)

  pub settled_run : (w : World) → Over (log_of v) w → Settled w id → (cs : List Call) → AllSpare v.state.length cs → Over (log_of v) (run w cs) × Settled (run w cs) id
  unfolding run
  settled_run w o k [] spare = (o, k)
  settled_run w o k (c ∷ cs) spare =
      settled_run (step w c) (over_step (log_of v) i.good.sound w o c (rw size spare.0)) (settled_step w o k c spare.0) cs spare.1

-- ---- any calls, whatever is cut

-- every log stands over the empty one
over_nothing : (w : World) → Lives w → Over [] w
over_nothing w i = record { lives = i; grows = record { more = log_of w; is = refl } }

sound_nothing : (w : World) → Lives w → Sound []
sound_nothing w i = sound_front (log_of w) 0 (omega arith) i.good.sound (λ p h l. absurd (omega arith))

-- so any cut leaves a world of the history
pub any_cut : (w : World) → Lives w → (n stored : ℕ) (rest : List ℕ) → CutLeaves [] w stored (step w (cut_log n stored rest))
any_cut w i n stored rest = cut_leaves [] (sound_nothing w i) w (over_nothing w i) n (omega arith) stored rest

pub lives_step : (w : World) → Lives w → (c : Call) → Lives (step w c)
lives_step w i c = ⊎_elim
    (λ m. m.over.lives)
    (λ k. rw k.is (cut_over [] (sound_nothing w i) (over_nothing w i) (any_cut w i k.bytes k.stored k.rest)).lives)
    (moved w i c)

pub lives_run : (w : World) → Lives w → (cs : List Call) → Lives (run w cs)
unfolding run
lives_run w i [] = i
lives_run w i (c ∷ cs) = lives_run (step w c) (lives_step w i c) cs
