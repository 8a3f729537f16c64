-- Where the entries of a batch lie in the log that the push leaves. Assumes nothing.
use Prim.Native.Nat.{ℕ, zero, suc, ◌+◌, ◌*◌, ◌%◌, ◌≤◌, ◌<◌}
use mathlib.Core.Path.{◌≡◌, refl, sym, ap, ◌∙◌}
use mathlib.Core.Logic.{◌⊎◌, inl, inr, ⊎_elim}
use mathlib.Core.List.{List, [], ◌++◌, append_assoc, append-nil}
use native.Mathlib.Omega.{arith}
use lib.ListN.{length, get_or, take, length-append}
use lib.Seq.{take_at}
use Rattle.refusal.proofs.Cases.{side, order}
use Rattle.page.specs.Size.{page_size, id_size, pages_for_data, page_count}
use Rattle.page.specs.Entry.{length_at, id_at, after_at}
use Rattle.page.specs.Write.{entry_pages}
use Rattle.page.proofs.Counting.{pages_some}
use Rattle.page.proofs.Joining.{length_entry}
use Rattle.page.proofs.Growing.{mark_kept, id_kept, count_added, mark_added, id_added}
use Rattle.catalog.specs.Recovery.{first_pages}
use Rattle.pushing.specs.Push.{entry_data}
use Rattle.demands.proofs.Sound.{sound_length}
use Rattle.demands.specs.Sound.{Start, Sound, SoundStore}
use Rattle.demands.specs.Push.{batch_pages, log_after, Push, id_in, data_in, outcome, Counted, begins_at, log_with, Holds, Ready, RightPush}
use Rattle.demands.specs.History.{Words}
use Rattle.demands.proofs.Push.Appending.{holds_back}
use Rattle.demands.proofs.Front.{Closed, sound_front}
use Rattle.demands.proofs.Push.Batch.{push_grows, push_right}

-- ---- the pages of a batch

module _ (ids ends bytes : List ℕ) where
  -- those of n entries begin with those of the first k
  pub record Begins (k n : ℕ) : Type 0 where
    pub rest : List ℕ
    pub is : batch_pages ids ends bytes n ≡ batch_pages ids ends bytes k ++ rest

  pub begins : (k n : ℕ) → k ≤ n → Begins k n
  unfolding batch_pages
  begins k zero l = let e : k ≡ 0 = omega arith in rw e (record { rest = []; is = refl })
  begins k (suc n) l = ⊎_elim
      (λ s. let b = begins k n (omega arith) in record { rest = b.rest ++ entry_pages (get_or ids n 0) (entry_data ends bytes n); is = rw b.is (append_assoc (batch_pages ids ends bytes k) b.rest _) })
      (λ s. let e : k ≡ suc n = omega arith in rw e (record { rest = []; is = sym (append-nil _) }))
      (side k (suc n))

  batch_whole : (k : ℕ) → length (batch_pages ids ends bytes k) % page_size ≡ 0
  unfolding batch_pages
  batch_whole zero = refl
  batch_whole (suc k) =
      let d = entry_data ends bytes k in
      rw (length-append (batch_pages ids ends bytes k) (entry_pages (get_or ids k 0) d)) (omega (arith, batch_whole k, length_entry (get_or ids k 0) d))

-- ---- in the log that a push leaves

module _ (q : Push) (words : Words q.ids) (ready : Ready q.store q.state) where
  abbrev log : List ℕ
  log = log_after (outcome q)

  is_right : RightPush q.ids q.ends q.bytes (outcome q)
  is_right = push_right q.ids q.ends q.bytes words q.store q.state ready

  pub is_good : SoundStore (outcome q).store (outcome q).answer.state.length
  is_good = is_right.ready.good

  pub sound_after : Sound log
  sound_after = is_good.sound

  -- it begins with the log before and the first entries
  pub record BeginsWith (k : ℕ) : Type 0 where
    pub rest : List ℕ
    pub is : log ≡ log_with q k ++ rest

  pub begins_with : (k : ℕ) → k ≤ (outcome q).answer.written → BeginsWith k
  begins_with k l =
      let b = begins q.ids q.ends q.bytes k (outcome q).answer.written l in
      record { rest = b.rest; is = (push_grows q.store q.state q.ids q.ends q.bytes).log ∙ rw b.is (sym (append_assoc (take q.state.length q.store) _ b.rest)) }

  -- all of it with all of them
  pub is_with_all : log ≡ log_with q (outcome q).answer.written
  is_with_all = (push_grows q.store q.state q.ids q.ends q.bytes).log

  pub length_with : (k : ℕ) → length (log_with q k) ≡ begins_at q k
  length_with k = length-append (take q.state.length q.store) _ ∙ rw (sound_length ready.good)

  pub with_whole : (k : ℕ) → length (log_with q k) % page_size ≡ 0
  with_whole k =
      let a = ready.good.sound.pages in
      omega (arith, a, batch_whole q.ids q.ends q.bytes k, length-append (take q.state.length q.store) (batch_pages q.ids q.ends q.bytes k))

  -- those are its first pages
  pub first_with : (k : ℕ) → k ≤ (outcome q).answer.written → first_pages log (page_count (log_with q k)) ≡ log_with q k
  first_with k l =
      let b = begins_with k l in
      rw b.is (take_at (log_with q k) b.rest (page_count (log_with q k) * page_size) (omega (arith, with_whole k)))

  -- one entry more
  with_next : (k : ℕ) → log_with q (suc k) ≡ log_with q k ++ entry_pages (id_in q k) (data_in q k)
  unfolding batch_pages
  with_next k = sym (append_assoc (take q.state.length q.store) _ _)

  -- the page at which entry k starts
  abbrev pub page_of : ℕ → ℕ
  page_of k = page_count (log_with q k)

  pub next_page : (k : ℕ) → page_of (suc k) ≡ page_of k + pages_for_data (length (data_in q k))
  next_page k = rw (with_next k) (count_added (log_with q k) (id_in q k) (data_in q k) (with_whole k))

  pub pages_rise : (j k : ℕ) → j ≤ k → page_of j ≤ page_of k
  pages_rise j zero l = let e : j ≡ 0 = omega arith in omega (arith, ap page_of e)
  pages_rise j (suc k) l = ⊎_elim
      (λ (s : j < suc k). omega (arith, pages_rise j k (omega arith), next_page k))
      (λ (s : suc k ≤ j). let e : j ≡ suc k = omega arith in omega (arith, ap page_of e))
      (side j (suc k))

  module _ (j : ℕ) (c : Counted q j) where
    abbrev rest : List ℕ
    rest = (begins_with (suc j) c).rest

    is_then : log ≡ (log_with q j ++ entry_pages (id_in q j) (data_in q j)) ++ rest
    is_then = (begins_with (suc j) c).is ∙ rw (with_next j)

    inside : page_of j < page_count (log_with q j ++ entry_pages (id_in q j) (data_in q j))
    inside = omega (arith, count_added (log_with q j) (id_in q j) (data_in q j) (with_whole j), pages_some (id_size + length (data_in q j)))

    pub entry_start : Start log (page_of j)
    entry_start = record {
      inside = rw is_then (omega (arith, inside, length-append (log_with q j ++ entry_pages (id_in q j) (data_in q j)) rest));
      marked = rw is_then (mark_kept (log_with q j ++ entry_pages (id_in q j) (data_in q j)) rest (page_of j) inside ∙ mark_added (log_with q j) (id_in q j) (data_in q j) (with_whole j));
    }

    pub entry_id : id_at log (page_of j) ≡ id_in q j
    entry_id = rw is_then (id_kept (log_with q j ++ entry_pages (id_in q j) (data_in q j)) rest (page_of j) inside ∙ id_added (log_with q j) (id_in q j) (data_in q j) (with_whole j) (words j))

    -- the entry that the push holds is the one there: no other start has its id
    held_there : (is_right.held j c).page ≡ page_of j
    held_there =
        let h = is_right.held j c in
        ⊎_elim (λ e. e)
        (⊎_elim
        (λ l. absurd (omega (arith, sound_after.rising _ _ h.start entry_start l, h.has, entry_id)))
        (λ l. absurd (omega (arith, sound_after.rising _ _ entry_start h.start l, h.has, entry_id))))
        (order h.page (page_of j))

    pub entry_after : after_at log (page_of j) ≡ page_of (suc j)
    entry_after =
        let size : length_at log (page_of j) ≡ id_size + length (data_in q j) = rw held_there at (is_right.held j c).size in
        rw size (sym (next_page j))

  -- a start of the log after the push was there before, or is that of an entry of the batch
  pub record OfBatch (p : ℕ) : Type 0 where
    pub place : ℕ
    pub counted : Counted q place
    pub there : p ≡ page_of place

  module _ (p : ℕ) (h : Start log p) where
    below_page : (k : ℕ) → k ≤ (outcome q).answer.written → p < page_of k → (p < page_of 0) ⊎ OfBatch p
    below_page zero l b = inl b
    below_page (suc k) l b = ⊎_elim (below_page k (omega arith)) (λ a. inr (record { place = k; counted = l; there = there a })) (side p (page_of k))
      where
        there : page_of k ≤ p → p ≡ page_of k
        there a = ⊎_elim
            (λ e. sym e)
            (⊎_elim (λ over. absurd (omega (arith, sound_after.apart (page_of k) p (entry_start k l) h over, entry_after k l))) (λ under. absurd (omega arith)))
            (order (page_of k) p)

    pub start_of : (p < page_of 0) ⊎ OfBatch p
    start_of = below_page (outcome q).answer.written (omega arith) (omega (arith, h.inside, ap page_count is_with_all))

  -- no entry before entry k goes on after it starts
  pub closed_with : (k : ℕ) → k ≤ (outcome q).answer.written → Closed log (page_of k)
  closed_with k l p h below = ⊎_elim
      (λ c. sound_after.apart p (page_of k) h (entry_start k c) below)
      (λ a. let e : (outcome q).answer.written ≡ k = omega arith in omega (arith, sound_after.within p h, ap page_count is_with_all, ap page_of e))
      (side k (outcome q).answer.written)

  pub inside_after : (k : ℕ) → k ≤ (outcome q).answer.written → page_of k ≤ page_count log
  inside_after k l = let b = begins_with k l in rw b.is (omega (arith, length-append (log_with q k) b.rest))

  -- so the log is sound there
  pub sound_with : (k : ℕ) → k ≤ (outcome q).answer.written → Sound (log_with q k)
  sound_with k l = rw (first_with k l) at (sound_front log (page_of k) (inside_after k l) sound_after (closed_with k l))

  -- and holds each of those
  pub held_with : (j : ℕ) → Counted q j → Holds (log_with q (suc j)) (id_in q j) (data_in q j)
  held_with j c =
      let b = begins_with (suc j) c in
      let ends : (is_right.held j c).page + pages_for_data (length (data_in q j)) ≤ page_of (suc j) = omega (arith, held_there j c, next_page j) in
      holds_back (log_with q (suc j)) b.rest (id_in q j) (data_in q j) (rw b.is at (is_right.held j c)) ends
