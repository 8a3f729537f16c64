-- A push adds to the log the pages of exactly the entries it counts and changes no other byte; a sound log stays sound and holds them. Assumes nothing.
use Prim.Native.Nat.{ℕ, zero, suc, ◌+◌, ◌-◌, ◌^◌, ◌≤◌, ◌<◌}
use mathlib.Core.Path.{◌≡◌, refl, sym, ap, ◌∙◌}
use mathlib.Core.Logic.{⊎_elim}
use mathlib.Core.List.{List, [], ◌++◌, append_assoc, append-nil}
use native.Mathlib.Omega.{arith}
use lib.ListN.{length, get_or, take, drop, length-append, length-drop}
use lib.Seq.{take_at, drop_at, drop-drop, length-take-le}
use Rattle.refusal.proofs.Cases.{side}
use Rattle.page.specs.Size.{data_end}
use Rattle.page.specs.Entry.{id_at}
use Rattle.page.specs.Write.{entry_pages}
use Rattle.page.proofs.Joining.{length_entry}
use Rattle.pushing.specs.Push.{Why, none, refused, entry_data, Point, point, log_at, bytes_for, wrote, Done, done, entries_from, push_of}
use Rattle.catalog.specs.declared.state.State.{State}
use Rattle.demands.proofs.Push.Ways.{by_batch, by_turn}
use Rattle.demands.specs.Sound.{Start, SoundStore, LastStored, last_entry}
use Rattle.demands.specs.Push.{batch_pages, log_after, Grown, after_entries, last_of, Holds, Ready, RightPush}
use Rattle.demands.specs.History.{Words}
use Rattle.demands.proofs.Last.{greatest_last, last_stored_ready}
use Rattle.demands.proofs.Push.Appending.{holds_kept, sound_append, most_append, holds_append}

-- ---- an entry written

module _ (id : ℕ) (d : List ℕ) (p : Point) (inside : p.state.length ≤ length p.store) (fits : bytes_for d ≤ length p.store - p.state.length) where
  abbrev entry : List ℕ
  entry = entry_pages id d

  abbrev next : Point
  next = wrote id d p

  size_log : length (log_at p ++ entry) ≡ p.state.length + bytes_for d
  size_log = length-append (log_at p) entry ∙ omega (arith, length-take-le p.state.length p.store inside, length_entry id d)

  wrote_store : next.store ≡ (log_at p ++ entry) ++ drop (p.state.length + bytes_for d) p.store
  unfolding wrote
  wrote_store = rw (append_assoc (log_at p) entry _, drop-drop (length entry) p.state.length p.store, length_entry id d)

  wrote_length : next.state.length ≡ p.state.length + bytes_for d
  unfolding wrote
  wrote_length = refl

  wrote_log : log_at next ≡ log_at p ++ entry
  wrote_log = rw (wrote_store, wrote_length) (take_at (log_at p ++ entry) _ _ size_log)

  -- no byte after the entry changes
  wrote_after : (n : ℕ) → next.state.length ≤ n → drop n next.store ≡ drop n p.store
  wrote_after n l =
      let k = p.state.length + bytes_for d in
      let c : k + (n - k) ≡ n = omega (arith, wrote_length) in
      let e : drop k next.store ≡ drop k p.store = rw wrote_store (drop_at (log_at p ++ entry) _ k size_log) in
      let g : drop (n - k) (drop k next.store) ≡ drop (n - k) (drop k p.store) = rw e in
      rw (drop-drop (n - k) k next.store, drop-drop (n - k) k p.store, c) at g

  wrote_size : length next.store ≡ length p.store
  wrote_size = rw wrote_store (length-append (log_at p ++ entry) _ ∙ rw (size_log, length-drop) (omega (arith, inside)))

  wrote_inside : next.state.length ≤ length next.store
  wrote_inside = omega (arith, wrote_length, wrote_size, inside)

  wrote_next : next.state.next ≡ p.state.next
  unfolding wrote
  wrote_next = refl

  wrote_ceiling : next.state.ceiling ≡ p.state.ceiling
  unfolding wrote
  wrote_ceiling = refl

wrote_last : (id : ℕ) (d : List ℕ) (p : Point) → (wrote id d p).state.last ≡ id
unfolding wrote
wrote_last id d p = refl

-- the entry is there, last written being its id, and the log is sound as before
module _ (id : ℕ) (d : List ℕ) (p : Point) (fits : bytes_for d ≤ length p.store - p.state.length)
    (word : id < 2 ^ 64) (short : length d < data_end) (r : Ready p.store p.state) (above : p.state.last < id) where
  abbrev after : Point
  after = wrote id d p

  within : p.state.length ≤ length p.store
  within = r.good.fits.inside

  over : (q : ℕ) → Start (log_at p) q → id_at (log_at p) q < id
  over q h = omega (arith, r.under q h)

  log_after_lem : log_at after ≡ log_at p ++ entry_pages id d
  log_after_lem = wrote_log id d p within fits

  wrote_holds : Holds (log_at after) id d
  wrote_holds = rw log_after_lem (holds_append (log_at p) r.good.sound id d (omega arith) word short over)

  wrote_ready : Ready after.store after.state
  wrote_ready = record {
    good = record {
      fits = record {
        small = omega (arith, r.good.fits.small, wrote_size id d p within fits);
        inside = wrote_inside id d p within fits;
      };
      sound = rw log_after_lem (sound_append (log_at p) r.good.sound id d (omega arith) word short over);
    };
    under = rw (log_after_lem, wrote_last id d p) (most_append (log_at p) r.good.sound id d (omega arith) word short over);
  }

-- ---- the entries in turn

-- on any input, what a push leaves that has come to p, the log being at first `log₀`
record GrownFrom (log₀ ids ends bytes : List ℕ) (p : Point) (r : Done) : Type 0 where
  pub log : log_after r ≡ log₀ ++ batch_pages ids ends bytes r.answer.written
  pub after : drop r.answer.state.length r.store ≡ drop r.answer.state.length p.store
  pub reach : p.state.length ≤ r.answer.state.length
  pub size : length r.store ≡ length p.store
  pub next : r.answer.state.next ≡ p.state.next
  pub ceiling : r.answer.state.ceiling ≡ p.state.ceiling

module _ (log₀ ids ends bytes : List ℕ) where
  -- nothing more is written
  grown_none : (j : ℕ) (p : Point) (why : Why) → log_at p ≡ log₀ ++ batch_pages ids ends bytes j → GrownFrom log₀ ids ends bytes p (done why j p)
  grown_none j p why l = record { log = l; after = refl; reach = omega arith; size = refl; next = refl; ceiling = refl }

  module _ (j : ℕ) (p : Point) (inside : p.state.length ≤ length p.store) (fits : bytes_for (entry_data ends bytes j) ≤ length p.store - p.state.length) where
    abbrev id : ℕ
    id = get_or ids j 0

    abbrev d : List ℕ
    d = entry_data ends bytes j

    abbrev then : Point
    then = wrote id d p

    log_then : log_at p ≡ log₀ ++ batch_pages ids ends bytes j → log_at then ≡ log₀ ++ batch_pages ids ends bytes (suc j)
    unfolding batch_pages
    log_then l = wrote_log id d p inside fits ∙ rw l (append_assoc log₀ (batch_pages ids ends bytes j) (entry_pages id d))

    grown_more : (r : Done) → GrownFrom log₀ ids ends bytes then r → GrownFrom log₀ ids ends bytes p r
    grown_more r h = record {
      log = h.log;
      after = h.after ∙ wrote_after id d p inside fits r.answer.state.length h.reach;
      reach = omega (arith, h.reach, wrote_length id d p inside fits);
      size = h.size ∙ wrote_size id d p inside fits;
      next = h.next ∙ wrote_next id d p inside fits;
      ceiling = h.ceiling ∙ wrote_ceiling id d p inside fits;
    }

  grown_from : (n j : ℕ) (p : Point) → p.state.length ≤ length p.store → log_at p ≡ log₀ ++ batch_pages ids ends bytes j → GrownFrom log₀ ids ends bytes p (entries_from ids ends bytes n j p)
  unfolding entries_from
  grown_from zero j p o l = grown_none j p none l
  grown_from (suc n) j p o l = by_turn ids ends bytes n j p (GrownFrom log₀ ids ends bytes p)
      (λ a. grown_none j p (refused 2 0) l)
      (λ a b. grown_none j p (refused 3 0) l)
      (λ a b c. grown_none j p (refused 4 0) l)
      (λ a b c. grown_more j p o c _ (grown_from n (suc j) _ (wrote_inside (get_or ids j 0) (entry_data ends bytes j) p o c) (log_then j p o c l)))

-- ---- THEOREM: on any input a push grows the log by the pages of exactly the entries it counts, and changes no other byte

module _ (store : List ℕ) (st : State) (ids ends bytes : List ℕ) where
  abbrev log_before : List ℕ
  log_before = take st.length store

  none_yet : log_before ≡ log_before ++ batch_pages ids ends bytes 0
  unfolding batch_pages
  none_yet = sym (append-nil log_before)

  grown : GrownFrom log_before ids ends bytes (point st store) (push_of store st ids ends bytes)
  grown = by_batch store st ids ends bytes (GrownFrom log_before ids ends bytes (point st store))
      (refused_all 1)
      (refused_all 13)
      (refused_all 16)
      (λ l. grown_from log_before ids ends bytes (length ids) 0 (point st store) l none_yet)
    where
      refused_all : (number : ℕ) → GrownFrom log_before ids ends bytes (point st store) (done (refused number 0) 0 (point st store))
      refused_all number = grown_none log_before ids ends bytes 0 (point st store) (refused number 0) none_yet

  pub push_grows : Grown store st ids ends bytes (push_of store st ids ends bytes)
  push_grows = record { log = grown.log; after = grown.after; size = grown.size; next = grown.next; ceiling = grown.ceiling }

-- ---- THEOREM: on any input a push leaves what the entries that it counts leave, and nothing of the one that is refused

-- shut, so that antt sees which push it is asked of
Leaves : List ℕ → List ℕ → List ℕ → Point → Done → Type 0
Leaves ids ends bytes p₀ r = point r.answer.state r.store ≡ after_entries ids ends bytes p₀ r.answer.written

module _ (ids ends bytes : List ℕ) (p₀ : Point) where
  leaves_from : (n j : ℕ) (p : Point) → p ≡ after_entries ids ends bytes p₀ j → Leaves ids ends bytes p₀ (entries_from ids ends bytes n j p)
  unfolding Leaves entries_from after_entries
  leaves_from zero j p e = e
  leaves_from (suc n) j p e = by_turn ids ends bytes n j p (Leaves ids ends bytes p₀)
      (λ a. e)
      (λ a b. e)
      (λ a b c. e)
      (λ a b c. leaves_from n (suc j) _ (ap (wrote (get_or ids j 0) (entry_data ends bytes j)) e))

module _ (store : List ℕ) (st : State) (ids ends bytes : List ℕ) where
  pub push_leaves : point (push_of store st ids ends bytes).answer.state (push_of store st ids ends bytes).store
      ≡ after_entries ids ends bytes (point st store) (push_of store st ids ends bytes).answer.written
  unfolding Leaves after_entries
  push_leaves = by_batch store st ids ends bytes (Leaves ids ends bytes (point st store)) refl refl refl (λ l. leaves_from ids ends bytes (point st store) (length ids) 0 (point st store) refl)

  last_after : (n : ℕ) → (after_entries ids ends bytes (point st store) n).state.last ≡ last_of st ids n
  unfolding after_entries
  last_after zero = refl
  last_after (suc n) = wrote_last (get_or ids n 0) (entry_data ends bytes n) (after_entries ids ends bytes (point st store) n)

  -- so last written is the id of the last entry counted, and stays where none is
  pub push_last : (push_of store st ids ends bytes).answer.state.last ≡ last_of st ids (push_of store st ids ends bytes).answer.written
  push_last = ap (λ (p : Point). p.state.last) push_leaves ∙ last_after (push_of store st ids ends bytes).answer.written

-- ---- THEOREM: onto a sound log, with last written at or above the last stored id, it stays so and holds every entry counted

module _ (ids ends bytes : List ℕ) (words : Words ids) where
  -- the log holds the first j entries
  abbrev HoldsBelow : ℕ → List ℕ → Type 0
  HoldsBelow j log = (k : ℕ) → k < j → Holds log (get_or ids k 0) (entry_data ends bytes k)

  right_none : (j : ℕ) (q : Point) (why : Why) → Ready q.store q.state → HoldsBelow j (log_at q) → RightPush ids ends bytes (done why j q)
  right_none j q why r h = record { ready = r; held = h }

  module _ (j : ℕ) (p : Point) (r : Ready p.store p.state) (h : HoldsBelow j (log_at p)) where
    abbrev this : ℕ
    this = get_or ids j 0

    abbrev own : List ℕ
    own = entry_data ends bytes j

    holds_more : p.state.last < this → length own < data_end → bytes_for own ≤ length p.store - p.state.length → HoldsBelow (suc j) (log_at (wrote this own p))
    holds_more a b c k l = ⊎_elim
        (λ s. rw (log_after_lem this own p c (words j) b r a) (holds_kept (log_at p) (entry_pages this own) (get_or ids k 0) (entry_data ends bytes k) r.good.sound (h k s)))
        (λ s. let e : k ≡ j = omega arith in rw e (wrote_holds this own p c (words j) b r a))
        (side k j)

  right_from : (n j : ℕ) (p : Point) → Ready p.store p.state → HoldsBelow j (log_at p) → RightPush ids ends bytes (entries_from ids ends bytes n j p)
  unfolding entries_from
  right_from zero j p r h = right_none j p none r h
  right_from (suc n) j p r h = by_turn ids ends bytes n j p (RightPush ids ends bytes)
      (λ a. right_none j p (refused 2 0) r h)
      (λ a b. right_none j p (refused 3 0) r h)
      (λ a b c. right_none j p (refused 4 0) r h)
      (λ a b c. right_from n (suc j) _ (wrote_ready (get_or ids j 0) (entry_data ends bytes j) p c (words j) b r a) (holds_more j p r h a b c))

  pub push_right : (store : List ℕ) (st : State) → Ready store st → RightPush ids ends bytes (push_of store st ids ends bytes)
  push_right store st r =
      let none_yet : HoldsBelow 0 (log_at (point st store)) = λ k l. absurd (omega arith) in
      let still : (number : ℕ) → RightPush ids ends bytes (done (refused number 0) 0 (point st store)) = λ number. right_none 0 (point st store) (refused number 0) r none_yet in
      by_batch store st ids ends bytes (RightPush ids ends bytes) (still 1) (still 13) (still 16) (λ l. right_from (length ids) 0 (point st store) r none_yet)

-- ---- THEOREM: onto a sound log whose last stored id is last written, last written is the last stored id again

module _ (ids ends bytes : List ℕ) (words : Words ids) (store : List ℕ) (st : State) (good : SoundStore store st.length) (last : LastStored (take st.length store) st.last) where
  abbrev pushed : Done
  pushed = push_of store st ids ends bytes

  is_right : RightPush ids ends bytes pushed
  is_right = push_right ids ends bytes words store st (last_stored_ready store st good last)

  -- no entry is counted: neither the log nor last written has moved
  last_still : pushed.answer.written ≡ 0 → LastStored (log_after pushed) pushed.answer.state.last
  unfolding batch_pages
  last_still e =
      let n : pushed.answer.state.last ≡ st.last = rw e at (push_last store st ids ends bytes) in
      let l : log_after pushed ≡ take st.length store ++ [] = rw e at (push_grows store st ids ends bytes).log in
      rw (l, append-nil (take st.length store), n) last

  -- the last entry counted has the greatest id
  last_new : (m : ℕ) → pushed.answer.written ≡ suc m → LastStored (log_after pushed) pushed.answer.state.last
  last_new m e =
      let n : pushed.answer.state.last ≡ get_or ids m 0 = rw e at (push_last store st ids ends bytes) in
      let h = is_right.held m (omega arith) in
      last_entry h.page
      (greatest_last (log_after pushed) is_right.ready.good.sound h.page h.start (λ q b. omega (arith, is_right.ready.under q b, n, h.has)))
      (h.has ∙ sym n)

  pub push_last_stored : LastStored (log_after pushed) pushed.answer.state.last
  push_last_stored = go pushed.answer.written refl
    where
      go : (n : ℕ) → pushed.answer.written ≡ n → LastStored (log_after pushed) pushed.answer.state.last
      go zero e = last_still e
      go (suc m) e = last_new m e

-- ---- THEOREM: a push that is not refused wrote every entry

-- shut, so that antt sees which push it is asked of
AllWritten : ℕ → Done → Type 0
AllWritten k r = r.answer.reason ≡ none → r.answer.written ≡ k

module _ (ids ends bytes : List ℕ) where
  cut_short : (k number j : ℕ) (q : Point) → AllWritten k (done (refused number 0) j q)
  unfolding AllWritten
  cut_short k number j q e = cc

  to_the_end : (k j : ℕ) (q : Point) → j ≡ k → AllWritten k (done none j q)
  unfolding AllWritten
  to_the_end k j q l e = l

  all_from : (k n j : ℕ) (p : Point) → j + n ≡ k → AllWritten k (entries_from ids ends bytes n j p)
  unfolding entries_from
  all_from k zero j p l = to_the_end k j p (omega arith)
  all_from k (suc n) j p l = by_turn ids ends bytes n j p (AllWritten k)
      (λ a. cut_short k 2 j p)
      (λ a b. cut_short k 3 j p)
      (λ a b c. cut_short k 4 j p)
      (λ a b c. all_from k n (suc j) _ (omega arith))

  pub push_whole : (store : List ℕ) (st : State) → (push_of store st ids ends bytes).answer.reason ≡ none → (push_of store st ids ends bytes).answer.written ≡ length ids
  unfolding AllWritten
  push_whole store st = by_batch store st ids ends bytes (AllWritten (length ids))
      (cut_short (length ids) 1 0 (point st store))
      (cut_short (length ids) 13 0 (point st store))
      (cut_short (length ids) 16 0 (point st store))
      (λ l. all_from (length ids) (length ids) 0 (point st store) (omega arith))
