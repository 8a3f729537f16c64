-- What a cut leaves: it shortens the log, but never below a sound front that it spares. Assumes nothing.
use Prim.Native.Nat.{ℕ, ◌+◌, ◌-◌, ◌*◌, ◌/◌, ◌≤◌, ◌<◌}
use mathlib.Core.Path.{◌≡◌, refl, sym, ap, ◌∙◌}
use mathlib.Core.Logic.{⊎_elim}
use mathlib.Core.List.{List, ◌++◌}
use native.Mathlib.Omega.{arith}
use lib.ListN.{length, take, drop, length-take, take-append-drop}
use lib.Seq.{take-append-le, take-append-add, take-take}
use Rattle.refusal.proofs.Cases.{side, which}
use Rattle.page.specs.Size.{page_size, page_count}
use Rattle.page.specs.Entry.{after_at}
use Rattle.page.proofs.Growing.{length_kept}
use Rattle.catalog.specs.Bounds.{Fits, too_long}
use Rattle.catalog.specs.State.{state_of, top_id}
use Rattle.catalog.specs.Recovery.{Recovering, recovered, refused, first_pages, excess_of, recover_of}
use Rattle.catalog.specs.declared.state.State.{State}
use Rattle.catalog.proofs.Laws.Bounds.{fitting}
use Rattle.catalog.proofs.Laws.Recovery.Steps.{length_first, recover_bad}
use Rattle.demands.specs.Sound.{Start, Sound, LastStored, last_entry}
use Rattle.demands.specs.Recovery.{RightRecovery, empty, used_up, goes_on, Left, RightCut}
use Rattle.demands.specs.History.{World, world, log_of, cut_log, kept_of, answer, after_cut, step}
use Rattle.demands.proofs.Push.Appending.{start_back}
use Rattle.demands.proofs.Recovery.Cutting.{cut_right}
use Rattle.demands.proofs.Recovery.Resuming.{Resumed, by_recovery}
use Rattle.demands.proofs.History.Living.{Grows, grows_size, Over}

-- the world after a cut: as it was, or one over that front, with a recovered state and a front of the log
pub data CutLeaves (base : List ℕ) (w : World) (stored : ℕ) : World → Type 0 where
  not_gone_on : CutLeaves base w stored w
  gone_on : (v : World) → Over base v → Resumed (log_of v) stored v.state → Grows (log_of v) (log_of w) → CutLeaves base w stored v

-- after a cut that recovery answers with 9: so many pages are left, and a state that the caller makes up for them
pub record StandsFull (base : List ℕ) (w : World) (n : ℕ) (store : List ℕ) : Type 0 where
  pub left : ℕ
  pub is_left : Left (log_of w) (length (kept_of w n) / page_size) left
  pub over : Over base (world store (state_of (left * page_size) top_id top_id top_id))

module _ (base : List ℕ) (sound : Sound base) (w : World) (o : Over base w) (n : ℕ) (spared : length base ≤ n) (stored : ℕ) (rest : List ℕ) where
  abbrev log : List ℕ
  log = log_of w

  abbrev kept : List ℕ
  kept = kept_of w n

  abbrev store : List ℕ
  store = kept ++ rest

  module _ (f : Fits store (length kept)) where
    right : RightCut log (length kept) stored (recover_of store (length kept) stored)
    right =
        let whole = take-append-drop n log in
        rw whole at (cut_right kept (drop n log) rest (rw whole o.lives.good.sound) f stored)

    abbrev left : ℕ
    left = right.left

    size_kept : length kept ≤ n
    size_kept = rw (length-take n log) (omega arith)

    -- the front lies before the cut
    base_kept : length base ≤ length kept
    base_kept = rw (length-take n log) (omega (arith, grows_size o.grows))

    -- and in what is left: an entry of it that was cut would not end in it
    base_left : length base ≤ left * page_size
    base_left = ⊎_elim (λ e. omega (arith, base_kept, sound.pages)) start right.is_left.edge
      where
        start : Start log left → length base ≤ left * page_size
        start h = ⊎_elim inside (λ l. omega (arith, sound.pages)) (side left (page_count base))
          where
            inside : left < page_count base → length base ≤ left * page_size
            inside l =
                let there = start_back base o.grows.more left l (rw o.grows.is at h) in
                let ends : after_at log left ≤ page_count base = rw (o.grows.is, length_kept base o.grows.more left l) (sound.within left there) in
                absurd (omega (arith, (right.is_left.exact left h).1 (omega (arith, base_kept))))

    -- what is left lies before the cut
    left_kept : left * page_size ≤ length kept
    left_kept = omega (arith, right.is_left.most)

    log_left : take (left * page_size) store ≡ first_pages log left
    log_left = take-append-le (left * page_size) kept rest left_kept ∙ take-take (left * page_size) n log (omega (arith, left_kept, size_kept))

    size_left : length (first_pages log left) ≡ left * page_size
    size_left = length_first log left (omega (arith, left_kept, length-take n log))

    grows_left : Grows base (first_pages log left)
    grows_left =
        let k = left * page_size - length base in
        let e : length base + k ≡ left * page_size = omega (arith, base_left) in
        record { more = take k o.grows.more; is = rw o.grows.is (rw e at (take-append-add base o.grows.more k)) }

    -- with a state of that length, and last written its last id
    module _ (st : State) (length-there : st.length ≡ left * page_size) (last : LastStored (first_pages log left) st.last) where
      log_there : log_of (world store st) ≡ first_pages log left
      log_there = rw length-there log_left

      over_there : Over base (world store st)
      over_there = record {
        lives = record {
          good = record {
            fits = record { small = f.small; inside = omega (arith, length-there, left_kept, f.inside) };
            sound = rw log_there right.sound;
          };
          last = rw log_there last;
        };
        grows = rw log_there grows_left;
      }

    -- what is left is a front of the log
    left_grows : Grows (first_pages log left) log
    left_grows = record { more = drop (left * page_size) log; is = sym (take-append-drop (left * page_size) log) }

    leaves_left : CutLeaves base w stored (after_cut w store (recover_of store (length kept) stored))
    leaves_left = by_recovery (λ r. CutLeaves base w stored (after_cut w store r)) not_gone_on
        (λ st h. let there = log_there st (h.size ∙ size_left) h.last in
        gone_on (world store st) (over_there st (h.size ∙ size_left) h.last) (rw there h) (rw there left_grows))
        (recover_of store (length kept) stored) right.right

    full_left : recover_of store (length kept) stored ≡ refused 9 0 → StandsFull base w n store
    full_left e = go (recover_of store (length kept) stored) e right.right
      where
        go : (r : Recovering) → r ≡ refused 9 0 → RightRecovery (first_pages log left) stored (excess_of (length kept)) (length kept / page_size - left) r → StandsFull base w n store
        go r f (empty z) = cc
        go r f (used_up p l u) = record { left = left; is_left = right.is_left; over = over_there (state_of (left * page_size) top_id top_id top_id) refl (last_entry p l u) }
        go r f (goes_on p l u) = cc

  -- THE LAW: a cut at or above the front leaves a world over it
  pub cut_leaves : CutLeaves base w stored (step w (cut_log n stored rest))
  unfolding step answer
  cut_leaves = ⊎_elim
      (λ t. rw (← recover_bad store (length kept) stored t) not_gone_on)
      (λ t. leaves_left (fitting store (length kept) t))
      (which (too_long store (length kept)))

  pub cut_full : recover_of store (length kept) stored ≡ refused 9 0 → StandsFull base w n store
  cut_full e = ⊎_elim
      (λ t. absurd (let bad = recover_bad store (length kept) stored t in let z : ◌≡◌ {A = ℕ} 1 9 = ap numbered (bad ∙ e) in omega arith))
      (λ t. full_left (fitting store (length kept) t) e)
      (which (too_long store (length kept)))
    where
      numbered : Recovering → ℕ
      numbered (recovered st excess dropped) = 0
      numbered (refused number value) = number
