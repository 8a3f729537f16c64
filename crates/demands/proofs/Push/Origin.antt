-- Where the entries of a log come from: each that the log holds after a push was there before, or the push counted it. Assumes nothing.
use Prim.Native.Nat.{ℕ, ◌+◌, ◌≤◌, ◌<◌}
use mathlib.Core.Path.{◌≡◌, sym, ap, ◌∙◌}
use mathlib.Core.Logic.{◌⊎◌, inl, inr, ⊎_elim}
use mathlib.Core.List.{List, append-nil}
use native.Mathlib.Omega.{arith}
use lib.ListN.{length, take}
use Rattle.refusal.proofs.Cases.{order}
use Rattle.page.specs.Size.{pages_for_data, page_count}
use Rattle.page.specs.Entry.{length_at, id_at}
use Rattle.demands.specs.Sound.{Start, Sound}
use Rattle.demands.specs.Push.{batch_pages, log_after, Push, id_in, data_in, outcome, Counted, log_with, Holds, Ready}
use Rattle.demands.specs.History.{Words}
use Rattle.demands.proofs.Push.Appending.{holds_back}
use Rattle.demands.proofs.Push.Batch.{push_right}
use Rattle.demands.proofs.Push.Places.{OfBatch, sound_after, begins_with, closed_with, entry_id, page_of, start_of}

-- ---- a sound log holds one entry with an id

module _ (log : List ℕ) (s : Sound log) where
  one_page : (p q : ℕ) → Start log p → Start log q → id_at log p ≡ id_at log q → p ≡ q
  one_page p q h k e = ⊎_elim
      (λ f. f)
      (⊎_elim (λ l. absurd (omega (arith, e, s.rising p q h k l))) (λ l. absurd (omega (arith, e, s.rising q p k h l))))
      (order p q)

  -- so with one data
  pub holds_once : (id : ℕ) (d e : List ℕ) → Holds log id d → Holds log id e → d ≡ e
  holds_once id d e h k =
      let there = one_page h.page k.page h.start k.start (h.has ∙ sym k.has) in
      let size : length d ≡ length e = omega (arith, h.size, k.size, ap (length_at log) there) in
      sym h.same ∙ (rw (there, size) k.same)

-- ---- THEOREM: an entry of the log after a push

pub record CountedIn (q : Push) (id : ℕ) (d : List ℕ) : Type 0 where
  pub place : ℕ
  pub counted : Counted q place
  pub id_is : id_in q place ≡ id
  pub data_is : data_in q place ≡ d

module _ (q : Push) (words : Words q.ids) (ready : Ready q.store q.state) where
  abbrev log : List ℕ
  log = log_after (outcome q)

  pub counted_held : (j : ℕ) → Counted q j → Holds log (id_in q j) (data_in q j)
  counted_held j c = (push_right q.ids q.ends q.bytes words q.store q.state ready).held j c

  nothing_yet : log_with q 0 ≡ take q.state.length q.store
  unfolding batch_pages
  nothing_yet = append-nil (take q.state.length q.store)

  module _ (id : ℕ) (d : List ℕ) (h : Holds log id d) where
    was_there : h.page < page_of q words ready 0 → Holds (take q.state.length q.store) id d
    was_there l =
        let b = begins_with q words ready 0 (omega arith) in
        let ends : h.page + pages_for_data (length d) ≤ page_count (log_with q 0) = rw h.size at (closed_with q words ready 0 (omega arith) h.page h.start l) in
        rw nothing_yet at (holds_back (log_with q 0) b.rest id d (rw b.is at h) ends)

    is_new : OfBatch q words ready h.page → CountedIn q id d
    is_new o =
        let e : id_in q o.place ≡ id = sym (entry_id q words ready o.place o.counted) ∙ ap (id_at log) (sym o.there) ∙ h.has in
        record {
          place = o.place;
          counted = o.counted;
          id_is = e;
          data_is = holds_once log (sound_after q words ready) id _ d (rw e at (counted_held o.place o.counted)) h;
        }

    pub held_before_or_counted : Holds (take q.state.length q.store) id d ⊎ CountedIn q id d
    held_before_or_counted = ⊎_elim (λ l. inl (was_there l)) (λ o. inr (is_new o)) (start_of q words ready h.page h.start)
