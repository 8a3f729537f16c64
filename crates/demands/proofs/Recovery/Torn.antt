-- A push that is cut at any byte: recovery finds the log before it and the entries whose pages all lie before the cut. Assumes nothing.
use Prim.Native.Nat.{ℕ, zero, suc, ◌-◌, ◌*◌, ◌/◌, ◌≤◌, ◌<◌}
use mathlib.Core.Path.{◌≡◌, refl, sym, ap, ◌∙◌}
use mathlib.Core.Logic.{◌⊎◌, ◌↔◌, inl, inr, ⊎_elim}
use mathlib.Core.List.{List, ◌++◌, append-nil}
use native.Mathlib.Omega.{arith}
use lib.ListN.{length, take}
use lib.Seq.{take-take, take-append-le, length-take-le}
use Rattle.refusal.proofs.Cases.{side}
use Rattle.page.specs.Size.{page_size, page_count}
use Rattle.page.specs.Entry.{id_at}
use Rattle.page.proofs.Growing.{id_kept}
use Rattle.page.proofs.Starting.{after_start}
use Rattle.catalog.specs.Bounds.{Fits}
use Rattle.catalog.specs.State.{fresh, recovered_at, resumed_above}
use Rattle.catalog.specs.Recovery.{Recovering, recovered, at_whole, first_pages, excess_of, above_stored, recover_of}
use Rattle.catalog.proofs.Laws.Recovery.Steps.{whole_used, whole_goes_on}
use Rattle.demands.specs.Sound.{Start, Sound, SoundStore, LastStored, nothing_stored, last_entry}
use Rattle.demands.specs.Push.{batch_pages, log_after, Push, outcome, Counted, begins_at, ends_at, log_with, last_of, Ready}
use Rattle.demands.specs.Recovery.{RightRecovery, empty, used_up, goes_on, RightCut, Torn}
use Rattle.demands.specs.History.{Words}
use Rattle.demands.proofs.Sound.{sound_length}
use Rattle.demands.proofs.Last.{last_stored_unique, last_stored_ready}
use Rattle.demands.proofs.Push.Appending.{start_kept, start_back}
use Rattle.demands.proofs.Push.Places.{is_good, sound_after, begins_with, is_with_all, length_with, first_with, with_whole, closed_with, page_of, pages_rise, entry_start, entry_after, entry_id}
use Rattle.demands.proofs.Recovery.Cutting.{cut_at_byte}

-- ---- a right recovery, by the id of the last entry stored

pub right_by_last : (log : List ℕ) (stored excess dropped b : ℕ) → LastStored log b → (r : Recovering) → RightRecovery log stored excess dropped r
    → r ≡ above_stored stored (at_whole (length log) b excess dropped)
right_by_last log stored excess dropped b l r (empty z) = none l
  where
    none : LastStored log b → recovered (resumed_above stored fresh) excess dropped ≡ above_stored stored (at_whole (length log) b excess dropped)
    none (nothing_stored no_start e) = ap (above_stored stored) (whole_goes_on (length log) b excess dropped (λ u. omega arith) fresh (rw (z, e)))
    none (last_entry p k e) = absurd (omega (arith, k.start.inside))
right_by_last log stored excess dropped b l r (used_up p k u) =
    ap (above_stored stored) (whole_used (length log) b excess dropped (last_stored_unique log b (id_at log p) l (last_entry p k refl) ∙ u))
right_by_last log stored excess dropped b l r (goes_on p k u) =
    let e = last_stored_unique log b (id_at log p) l (last_entry p k refl) in
    ap (above_stored stored) (whole_goes_on (length log) b excess dropped (λ v. u (sym e ∙ v)) (recovered_at (length log) (id_at log p)) (rw e))

-- ---- which entries lie before the cut

module _ (q : Push) (words : Words q.ids) (ready : Ready q.store q.state) (m : ℕ) where
  abbrev page : ℕ → ℕ
  page = page_of q words ready

  -- the most entries, of the first w, that lie on the first m pages
  record Fitting (w : ℕ) : Type 0 where
    pub kept : ℕ
    pub most : kept ≤ w
    pub fits : page kept ≤ m
    pub full : (kept ≡ w) ⊎ ((kept < w) × (m < page (suc kept)))

  fitting_of : page 0 ≤ m → (w : ℕ) → Fitting w
  fitting_of l zero = record { kept = 0; most = omega arith; fits = l; full = inl refl }
  fitting_of l (suc w) = more (fitting_of l w)
    where
      more : Fitting w → Fitting (suc w)
      more f = ⊎_elim
          (λ e. ⊎_elim
          (λ over. record { kept = w; most = omega arith; fits = rw e at f.fits; full = inr (omega arith, over) })
          (λ a. record { kept = suc w; most = omega arith; fits = a; full = inl refl })
          (side m (page (suc w))))
          (λ b. record { kept = f.kept; most = omega (arith, f.most); fits = f.fits; full = inr (omega (arith, f.most), b.1) })
          f.full

-- ---- THEOREM: a push that is cut

module _ (q : Push) (words : Words q.ids) (good : SoundStore q.store q.state.length) (last : LastStored (take q.state.length q.store) q.state.last) where
  abbrev ready : Ready q.store q.state
  ready = last_stored_ready q.store q.state good last

  abbrev log : List ℕ
  log = log_after (outcome q)

  abbrev written : ℕ
  written = (outcome q).answer.written

  abbrev place : ℕ → ℕ
  place = page_of q words ready

  sound : Sound log
  sound = sound_after q words ready

  -- the last of the first k entries is the last one stored, or the log before it is still there as it was
  last_with : (k : ℕ) → k ≤ written → LastStored (log_with q k) (last_of q.state q.ids k)
  unfolding batch_pages
  last_with zero l = rw (append-nil (take q.state.length q.store)) last
  last_with (suc j) l =
      let b = begins_with q words ready (suc j) l in
      let x = b.rest in
      let mine : Start (log_with q (suc j)) (place j) = start_back (log_with q (suc j)) x (place j) (omega (arith, entry_after q words ready j l, after_start log (place j))) (rw b.is at (entry_start q words ready j l)) in
      last_entry (place j)
      (record {
        start = mine;
        none = λ p h. ⊎_elim
            (λ a. absurd (omega (arith, sound.apart (place j) p (entry_start q words ready j l) (rw b.is (start_kept (log_with q (suc j)) x p h)) a, entry_after q words ready j l, h.inside)))
            (λ a. a)
            (side (place j) p);
      })
      (sym (id_kept (log_with q (suc j)) x (place j) mine.inside) ∙ rw b.is at (entry_id q words ready j l))

  module _ (n : ℕ) (from : q.state.length ≤ n) (to : n ≤ (outcome q).answer.state.length) (rest : List ℕ) (f : Fits (take n (outcome q).store ++ rest) n) (stored : ℕ) where
    abbrev store : List ℕ
    store = take n (outcome q).store ++ rest

    abbrev m : ℕ
    m = n / page_size

    -- what is kept is the first n bytes of the log
    size_log : length log ≡ (outcome q).answer.state.length
    size_log = sound_length (is_good q words ready)

    kept_log : take n log ≡ take n (outcome q).store
    kept_log = take-take n (outcome q).answer.state.length (outcome q).store to

    right : RightCut log n stored (recover_of store n stored)
    right = rw kept_log at (cut_at_byte log sound n (omega (arith, size_log)) rest (rw kept_log f) stored)

    abbrev left : ℕ
    left = right.left

    begins_there : begins_at q 0 ≡ q.state.length
    unfolding batch_pages
    begins_there = omega arith

    fit : Fitting q words ready m written
    fit = fitting_of q words ready m (omega (arith, length_with q words ready 0, begins_there)) written

    abbrev k : ℕ
    k = fit.kept

    -- what is left ends where the entries kept end: not after the first entry that is cut starts, nor after the log
    left_most : left ≤ place k
    left_most = ⊎_elim
        (λ e. omega (arith, right.is_left.most, size_log, ap page_count (is_with_all q words ready), ap place e))
        (λ b. ⊎_elim
        (λ l. absurd (omega (arith, (right.is_left.exact (place k) (entry_start q words ready k b.0)).0 l, entry_after q words ready k b.0, b.1)))
        (λ l. l)
        (side (place k) left))
        fit.full

    -- nor before, as a start there would be of an entry that ends before the cut
    left_least : place k ≤ left
    left_least = ⊎_elim
        (λ e. omega (arith, fit.fits))
        (λ h. ⊎_elim
        (λ l. absurd (omega (arith, (right.is_left.exact left h).1 (omega (arith, closed_with q words ready k fit.most left h l, fit.fits)))))
        (λ l. l)
        (side left (place k)))
        right.is_left.edge

    left_is : left ≡ place k
    left_is = omega (arith, left_most, left_least)

    log_left : first_pages log left ≡ log_with q k
    log_left = rw left_is (first_with q words ready k fit.most)

    -- the end of entry j's pages, by pages
    end_is : (j : ℕ) → ends_at q j ≡ place (suc j) * page_size
    end_is j = omega (arith, length_with q words ready (suc j), with_whole q words ready (suc j))

    exact : (j : ℕ) → Counted q j → (j < k) ↔ (ends_at q j ≤ n)
    exact j c = (
      λ l. omega (arith, end_is j, pages_rise q words ready (suc j) k l, fit.fits),
      λ b. ⊎_elim (λ l. l) (λ l. absurd (⊎_elim
          (λ e. omega (arith, e))
          (λ a. omega (arith, a.1, pages_rise q words ready (suc k) (suc j) (omega arith), end_is j))
          fit.full)) (side j k),
    )

    size_with : length (log_with q k) ≡ place k * page_size
    size_with = omega (arith, with_whole q words ready k)

    short : left * page_size ≤ length (take n (outcome q).store)
    short = rw (← kept_log, length-take-le n log (omega (arith, size_log))) (omega (arith, right.is_left.most))

    left_there : take (left * page_size) store ≡ first_pages log left
    left_there =
        take-append-le (left * page_size) (take n (outcome q).store) rest short
        ∙ ap (take (left * page_size)) (sym kept_log)
        ∙ take-take (left * page_size) n log (omega (arith, right.is_left.most))

    pub torn : Torn q n stored store (recover_of store n stored)
    torn = record {
      kept = k;
      counted = fit.most;
      exact = exact;
      log = rw (size_with, ← left_is, ← log_left) left_there;
      sound = rw log_left at right.sound;
      last = last_with k fit.most;
      dropped = m - left;
      adds_up = rw size_with (omega (arith, left_is, right.is_left.most));
      is = right_by_last (log_with q k) stored (excess_of n) (m - left) (last_of q.state q.ids k) (last_with k fit.most) (recover_of store n stored) (rw log_left at right.right);
    }
