-- What a history finds: each entry that the log holds after a call was there before or the call pushed it, and what a call finds the log holds. Assumes nothing.
use Prim.Native.Nat.{ℕ, ◌/◌, ◌<◌}
use mathlib.Core.Path.{◌≡◌, refl, sym, ap, ◌∙◌}
use mathlib.Core.Logic.{◌⊎◌, inl, inr, ⊎_elim}
use mathlib.Core.List.{List, []}
use lib.ListN.{length, get_or, take, drop}
use lib.Seq.{take_at}
use Rattle.page.specs.Size.{page_size}
use Rattle.page.specs.Data.{data_at, copied}
use Rattle.page.proofs.Placing.{length_data}
use Rattle.catalog.specs.Output.{WithOutput}
use Rattle.catalog.specs.Lookup.{Looking, find_of, lookup_of}
use Rattle.catalog.specs.declared.state.State.{State}
use Rattle.pushing.specs.Push.{Done, entry_data}
use Rattle.scanning.specs.Step.{Stepping, step_of}
use Rattle.scanning.specs.declared.range.Range.{Range}
use Rattle.demands.specs.Push.{outcome, Holds}
use Rattle.demands.specs.History.{World, log_of, Words, Call, push, find, lookup, step_on, cut_log}
use Rattle.demands.specs.History.{Answer, pushed, looked_up, located, stepped, answer, step, heard, pushing}
use Rattle.demands.specs.Used.{Pushes, Finds, by_find, by_lookup, by_ten, by_step, Reads, read_by_lookup, read_by_step}
use Rattle.demands.proofs.Last.{last_stored_ready}
use Rattle.demands.proofs.Push.Appending.{holds_kept}
use Rattle.demands.proofs.Push.Origin.{counted_held, held_before_or_counted}
use Rattle.demands.proofs.Lookup.Held.{find_held, looked, looked_ten}
use Rattle.demands.proofs.Scan.Held.{stepped_to}
use Rattle.demands.proofs.History.Living.{Lives}
use Rattle.demands.proofs.History.Cuts.{CutLeaves, not_gone_on, gone_on}
use Rattle.demands.proofs.History.Moving.{moved, any_cut}

-- ---- where the entries of the log after a call come from

module _ (w : World) (i : Lives w) (id : ℕ) (d : List ℕ) where
  push_there : (ids ends bytes : List ℕ) (words : Words ids) → Holds (log_of (step w (push ids ends bytes words))) id d
      → Holds (log_of w) id d ⊎ Pushes id d (heard w (push ids ends bytes words))
  unfolding step answer
  push_there ids ends bytes words h = ⊎_elim inl
      (λ c. inr (record {
        ids = ids;
        ends = ends;
        bytes = bytes;
        words = words;
        called = refl;
        done = outcome (pushing w ids ends bytes);
        is = refl;
        place = c.place;
        counted = c.counted;
        id_is = c.id_is;
        data_is = c.data_is;
      }))
      (held_before_or_counted (pushing w ids ends bytes) words (last_stored_ready w.store w.state i.good i.last) id d h)

  cut_there : (stored : ℕ) (v : World) → CutLeaves [] w stored v → Holds (log_of v) id d → Holds (log_of w) id d
  cut_there stored v not_gone_on h = h
  cut_there stored v (gone_on u o r front) h = rw front.is (holds_kept (log_of u) front.more id d o.lives.good.sound h)

  -- THE LAW
  pub comes_from : (c : Call) → Holds (log_of (step w c)) id d → Holds (log_of w) id d ⊎ Pushes id d (heard w c)
  comes_from c h = ⊎_elim
      (λ m. ⊎_elim (λ e. inl (rw e at h)) (λ k. rw k.is (push_there k.ids k.ends k.bytes k.words (rw k.is at h))) m.same)
      (λ k. inl (cut_there k.stored (step w (cut_log k.bytes k.stored k.rest)) (any_cut w i k.bytes k.stored k.rest) (rw k.is at h)))
      (moved w i c)

  -- and an entry that a push counted is there after it
  push_held : (ids ends bytes : List ℕ) (words : Words ids) (done : Done) → answer w (push ids ends bytes words) ≡ pushed done
      → (j : ℕ) → j < done.answer.written → get_or ids j 0 ≡ id → entry_data ends bytes j ≡ d → Holds (log_of (step w (push ids ends bytes words))) id d
  unfolding step answer
  push_held ids ends bytes words done e j c has same =
      let q = pushing w ids ends bytes in
      let is : done ≡ outcome q = cc in
      rw (has, same) at (counted_held q words (last_stored_ready w.store w.state i.good i.last) j (rw is at c))

  pub pushed_held : (c : Call) → Pushes id d (heard w c) → Holds (log_of (step w c)) id d
  pushed_held c p =
      rw p.called
      (push_held p.ids p.ends p.bytes p.words p.done (ap (answer w) (sym p.called) ∙ p.is) p.place p.counted p.id_is p.data_is)

-- ---- what a call finds, the log holds

module _ (w : World) where
  abbrev store : List ℕ
  store = w.store

  abbrev st : State
  st = w.state

  answer_find : (id : ℕ) (r : Looking) → answer w (find id) ≡ located r → find_of store st id ≡ r
  unfolding answer
  answer_find id r e = cc

  answer_lookup : (id : ℕ) (out : List ℕ) (r : WithOutput Looking) → answer w (lookup id out) ≡ looked_up r → lookup_of store st id out ≡ r
  unfolding answer
  answer_lookup id out r e = cc

  answer_step : (range : Range) (cursor : ℕ) (out : List ℕ) (r : WithOutput Stepping) → answer w (step_on range cursor out) ≡ stepped r
      → step_of store st range cursor out ≡ r
  unfolding answer
  answer_step range cursor out r e = cc

  -- of so many bytes
  pub record HeldWith (id len : ℕ) : Type 0 where
    pub data_is : List ℕ
    pub size : len ≡ length data_is
    pub held : Holds (log_of w) id data_is

  held_bytes : (id page len : ℕ) → Holds (log_of w) id (data_at (log_of w) page len) → HeldWith id len
  held_bytes id page len h = record { data_is = data_at (log_of w) page len; size = sym (length_data (log_of w) page len); held = h }

  module _ (c : Call) (id : ℕ) where
    -- of a call that is known
    answered : (known : Call) (r : Answer) → c ≡ known → answer w c ≡ r → answer w known ≡ r
    answered known r called is = ap (answer w) (sym called) ∙ is

    pub finds_held : (len : ℕ) → Finds id len (heard w c) → HeldWith id len
    finds_held len (by_find position called is) =
        held_bytes id (position / page_size) len (find_held store st id position len (answer_find id _ (answered _ _ called is)))
    finds_held len (by_lookup out left position called is) =
        let l = looked store st id position len out left (answer_lookup id out _ (answered _ _ called is)) in
        held_bytes id (position / page_size) len (find_held store st id position len l.at)
    finds_held len (by_ten out left called is) =
        let l = looked_ten store st id len out left (answer_lookup id out _ (answered _ _ called is)) in
        held_bytes id (l.position / page_size) len (find_held store st id l.position len l.at)
    finds_held len (by_step range cursor out left next called is) =
        let l = stepped_to store st range cursor out id len next left (answer_step range cursor out _ (answered _ _ called is)) in
        held_bytes id l.page len l.held

    -- what stands at the output's front is the data of the entry at that page
    read_is : (d left out : List ℕ) (page len : ℕ) → take len left ≡ d → left ≡ copied (log_of w) page len out → Holds (log_of w) id (data_at (log_of w) page len)
        → Holds (log_of w) id d
    read_is d left out page len front e h =
        let same = sym (take_at (data_at (log_of w) page len) (drop len out) len (length_data (log_of w) page len)) ∙ ap (take len) (sym e) ∙ front in
        rw same at h

    pub reads_held : (d : List ℕ) → Reads id d (heard w c) → Holds (log_of w) id d
    reads_held d (read_by_lookup out left position len called is front) =
        let l = looked store st id position len out left (answer_lookup id out _ (answered _ _ called is)) in
        read_is d left out (position / page_size) len front l.left_is (find_held store st id position len l.at)
    reads_held d (read_by_step range cursor out left len next called is front) =
        let l = stepped_to store st range cursor out id len next left (answer_step range cursor out _ (answered _ _ called is)) in
        read_is d left out l.page len front l.left_is l.held
