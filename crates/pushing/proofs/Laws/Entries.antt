-- The loop that writes a batch's entries: what is left to do from here is what was to do at the start. Assumes nothing.
use Prim.Native.Nat.{ℕ, suc, ◌+◌, ◌-◌, ◌<◌, ◌≤◌}
use mathlib.Core.Path.{◌≡◌, refl, sym, ap, ◌∙◌}
use mathlib.Core.Bool.{false}
use mathlib.Core.Logic.{◌⊎◌, inl, inr}
use mathlib.Core.List.{List, [], ◌∷◌, ◌++◌}
use native.Mathlib.Nat.{sub-zero}
use native.Mathlib.Numerals.{add-one}
use native.Mathlib.Omega.{arith}
use lib.ListN.{length, get_or, take, drop, length-drop}
use lib.Seq.{drop-drop, drop-cons}
use Rattle.std.proofs.Common.{Result, Ok, Err}
use Rattle.refusal.specs.Refusal.{number_of, value_of}
use Rattle.refusal.specs.declared.Refusal.{Refusal}
use Rattle.page.specs.Size.{data_end}
use Rattle.page.specs.Write.{overwritten, entry_pages}
use Rattle.page.proofs.Parting.{put_back}
use Rattle.catalog.specs.Round.{Round, again, follow}
use Rattle.catalog.specs.State.{state_of, moved_to}
use Rattle.pushing.specs.Push.{none, refused, Pushing, pushing, before, entry_data, bad_batch, Point, point, bytes_for, wrote, Done, done, turn, entries_from}
use Rattle.catalog.specs.declared.state.State.{State}
use Rattle.pushing.specs.Private.{paper_turn}
use Rattle.pushing.proofs.Laws.Ends.{DataLies, good_counts, data_lies}
use Rattle.pushing.proofs.Laws.Tests.{EntrySays, out_of_order, too_large, full_store, pages_fit, turn_write, entry_says}

-- ---- an entry's turn

module _ (st : State) (store : List ℕ) (j : ℕ) where
  abbrev this : Point
  this = point st store

  -- the bytes of its pages, as the code has them
  module _ (id : ℕ) (d : List ℕ) (above : st.last < id) (small : length d < data_end) (k : ℕ) (e : k ≡ bytes_for d) where
    -- the pages are written to the rest of the store
    pub write_pages : k ≤ length store - st.length
        → (ys store' : List ℕ)
        → ys ≡ overwritten (take (length store - st.length) (drop st.length store)) (entry_pages id d)
        → store' ≡ take st.length store ++ (ys ++ drop (length store - st.length) (drop st.length store))
        → (st' : State) (n l : ℕ) → st' ≡ moved_to st n l → n ≡ st.length + k → l ≡ id
        → again (point st' store') ≡ turn j id d this
    unfolding wrote
    write_pages c ys store' y w st' n l m q u =
        let s : store' ≡ take st.length store ++ overwritten (drop st.length store) (entry_pages id d) =
        w ∙ put_back st.length store (entry_pages id d) ys y ∙ rw (← drop-drop (length (entry_pages id d)) st.length store) in
        rw (m, q, u, e, s) (sym (turn_write j id d this above small (rw e at c)))

-- an entry whose pages were written ends inside the store
turn_room : (j id : ℕ) (d : List ℕ) (p q : Point) (r : Round Done Point) → p.state.length ≤ length p.store → EntrySays j id d p r → again q ≡ r → q.state.length ≤ length p.store
unfolding wrote
turn_room j id d p q r l (out_of_order a) e = cc
turn_room j id d p q r l (too_large a b) e = cc
turn_room j id d p q r l (full_store a b c) e = cc
turn_room j id d p q r l (pages_fit a b c) e =
    let m : q ≡ wrote id d p = cc in
    let n : q.state.length ≡ p.state.length + bytes_for d = ap (λ (x : Point). x.state.length) m in
    omega arith

-- ---- what is left of a list at j, when its first is taken

module _ (xs rest : List ℕ) (x j : ℕ) (left : x ∷ rest ≡ drop j xs) where
  front_inside : j < length xs
  front_inside = omega (arith, ap length left, length-drop j xs)

  parted : x ∷ rest ≡ get_or xs j 0 ∷ drop (suc j) xs
  parted = left ∙ drop-cons xs j 0 front_inside

  front_is : x ≡ get_or xs j 0
  front_is = ap (λ (l : List ℕ). get_or l 0 0) parted

  rest_is : rest ≡ drop (suc j) xs
  rest_is = ap (drop 1) parted

-- ---- the loop

-- what the loop keeps: j entries are written, and those ids and ends are left
pub record EntriesLoop (store₀ : List ℕ) (st₀ : State) (ids ends bytes store : List ℕ) (st : State) (from j : ℕ) (ids' ends' : List ℕ) : Type 0 where
  pub most : j ≤ length ids
  pub ids_left : ids' ≡ drop j ids
  pub ends_left : ends' ≡ drop j ends
  pub room : st.length ≤ length store
  pub long : length store ≡ length store₀
  pub from_is : from ≡ before ends j
  pub same : entries_from ids ends bytes (length ids - j) j (point st store) ≡ entries_from ids ends bytes (length ids) 0 (point st₀ store₀)

pub entries_begin : (store : List ℕ) (st : State) (ids ends bytes ids' ends' : List ℕ) (j : ℕ) → st.length ≤ length store → ids' ≡ ids → ends' ≡ ends → j ≡ 0
    → EntriesLoop store st ids ends bytes store st 0 j ids' ends'
entries_begin store st ids ends bytes ids' ends' j l i e z =
    rw z (record { most = omega arith; ids_left = i; ends_left = e; room = l; long = refl; from_is = refl; same = rw (sub-zero (length ids)) })

module _ {store₀ : List ℕ} {st₀ : State} {ids ends bytes store : List ℕ} {st : State} {from j : ℕ} {ids' ends' : List ℕ}
    (good : bad_batch ids ends bytes ≡ false) (h : EntriesLoop store₀ st₀ ids ends bytes store st from j ids' ends') where
  abbrev whole : Done
  whole = entries_from ids ends bytes (length ids) 0 (point st₀ store₀)

  abbrev here : Point
  here = point st store

  counts : length ids ≡ length ends
  counts = good_counts ids ends bytes good

  none_left : (ids' ≡ []) ⊎ (ends' ≡ []) → length ids ≤ j
  none_left (inl e) = omega (arith, ap length (sym e ∙ h.ids_left), length-drop j ids)
  none_left (inr e) = omega (arith, ap length (sym e ∙ h.ends_left), length-drop j ends, counts)

  -- no entry is left
  pub entries_end : (ids' ≡ []) ⊎ (ends' ≡ []) → (a : Pushing) (n : ℕ) → a ≡ pushing none n st → n ≡ length ids
      → (a ≡ whole.answer) × (store ≡ whole.store)
  unfolding entries_from
  entries_end l a n f q =
      let m : length ids ≤ j = none_left l in
      let z : length ids - j ≡ 0 = omega arith in
      let o : n ≡ j = omega (arith, h.most) in
      let w : done none j here ≡ whole = rw z at h.same in
      (f ∙ rw o (ap (λ (y : Done). y.answer) w), ap (λ (y : Done). y.store) w)

  -- the next entry's id and end
  module _ (id end : ℕ) (ids'' ends'' : List ℕ) (e : ids' ≡ id ∷ ids'') (f : ends' ≡ end ∷ ends'') where
    ids_from : id ∷ ids'' ≡ drop j ids
    ids_from = sym e ∙ h.ids_left

    ends_from : end ∷ ends'' ≡ drop j ends
    ends_from = sym f ∙ h.ends_left

    more : j < length ids
    more = front_inside ids ids'' id j ids_from

    id_is : id ≡ get_or ids j 0
    id_is = front_is ids ids'' id j ids_from

    end_is : end ≡ get_or ends j 0
    end_is = front_is ends ends'' end j ends_from

    lie : DataLies ends bytes j
    lie = data_lies ids ends bytes good j (front_inside ends ends'' end j ends_from)

    -- where the entry's data lies, as the code has it
    pub data_inside : (from ≤ end) × (end ≤ length bytes)
    data_inside = (omega (arith, lie.above, h.from_is, end_is), omega (arith, lie.inside, end_is))

    abbrev left : ℕ
    left = length ids - suc j

    abbrev rest : Point → Done
    rest = entries_from ids ends bytes left (suc j)

    -- the entry's turn, as the code has it
    module _ (store' : List ℕ) (r : Result State Refusal)
        (turned : (n : ℕ) → paper_turn n st store' r ≡ turn n id (take (end - from) (drop from bytes)) here) where
      turned_here : paper_turn j st store' r ≡ turn j (get_or ids j 0) (entry_data ends bytes j) here
      unfolding entry_data
      turned_here = rw (id_is, end_is, h.from_is) at (turned j)

      -- and then the rest
      in_turn : follow rest (paper_turn j st store' r) ≡ whole
      unfolding entries_from
      in_turn =
          let m : length ids - j ≡ suc left = omega (arith, more) in
          ap (follow rest) turned_here ∙ (rw m at h.same)

      -- a refusal ends the push, with the state as it stood
      pub entries_refused : (x : Refusal) → r ≡ Err x → (a : Pushing) (n : ℕ) (st' : State) → a ≡ pushing (refused (number_of x) (value_of x)) n st' → n ≡ j
          → st'.length ≡ st.length → st'.last ≡ st.last → st'.next ≡ st.next → st'.ceiling ≡ st.ceiling
          → (a ≡ whole.answer) × (store' ≡ whole.store)
      entries_refused x e a n st' f q l y z w =
          let s : state_of st'.length st'.last st'.next st'.ceiling ≡ st = rw (l, y, z, w) in
          let o : done (refused (number_of x) (value_of x)) j (point st store') ≡ whole = rw e at in_turn in
          (f ∙ rw (q, s) (ap (λ (y : Done). y.answer) o), ap (λ (y : Done). y.store) o)

      pub entries_again : (st' : State) → r ≡ Ok st' → length store' ≡ length store → (j' : ℕ) → j' ≡ j + 1
          → EntriesLoop store₀ st₀ ids ends bytes store' st' end j' ids'' ends''
      entries_again st' e l j' z =
          let t : again (point st' store') ≡ turn j (get_or ids j 0) (entry_data ends bytes j) here = rw e at turned_here in
          let w : st'.length ≤ length store = turn_room j (get_or ids j 0) _ here (point st' store') _ h.room (entry_says j (get_or ids j 0) _ here) t in
          rw (z, add-one j) (record {
            most = more;
            ids_left = rest_is ids ids'' id j ids_from;
            ends_left = rest_is ends ends'' end j ends_from;
            room = omega arith;
            long = l ∙ h.long;
            from_is = end_is;
            same = rw e at in_turn;
          })
