-- On any store and state: what a lookup finds the log holds, also if it is refused 10, and the data that it puts to the output's front is the entry's. Assumes nothing.
use Prim.Native.Nat.{ℕ, ◌/◌, ◌≤◌, ◌<◌}
use mathlib.Core.Path.{◌≡◌, refl, sym, ap, ◌∙◌}
use mathlib.Core.Logic.{⊎_elim}
use mathlib.Core.List.{List}
use native.Mathlib.Omega.{arith}
use lib.ListN.{length, take}
use Rattle.refusal.proofs.Cases.{side}
use Rattle.page.specs.Size.{page_size, id_size, page_count}
use Rattle.page.specs.Mark.{mark_at}
use Rattle.page.specs.Entry.{length_at, id_at, data_length_at}
use Rattle.page.specs.Data.{data_at, copied}
use Rattle.page.proofs.Placing.{length_data}
use Rattle.page.proofs.Starting.{after_start}
use Rattle.catalog.specs.Output.{WithOutput, with_output}
use Rattle.catalog.specs.Lookup.{Looking, found, absent, refused, find_of, lookup_of}
use Rattle.catalog.specs.declared.state.State.{State}
use Rattle.catalog.proofs.Laws.Lookup.Positions.{found_whole}
use Rattle.catalog.proofs.Laws.Lookup.Handing.{found_small, found_copied, absent_nothing, refused_nothing}
use Rattle.demands.specs.Push.{Holds}
use Rattle.demands.proofs.Lookup.NeverTen.{find_never_ten}

-- a whole entry of a page, with its data
pub held_at : (log : List ℕ) (page id len : ℕ) → page < page_count log → mark_at log page ≡ 1 → id_at log page ≡ id → id_size ≤ length_at log page
    → len ≡ data_length_at log page → Holds log id (data_at log page len)
held_at log page id len inside m has long size =
    let n = length_data log page len in
    record { page = page; start = record { inside = inside; marked = m }; has = has; size = omega (arith, n, size, long); same = rw n }

module _ (store : List ℕ) (st : State) (id position len : ℕ) where
  abbrev log : List ℕ
  log = take st.length store

  pub find_held : find_of store st id ≡ found position len → Holds log id (data_at log (position / page_size) len)
  find_held e =
      let f = found_whole store st id position len e in
      let p : position / page_size ≡ f.page = omega (arith, f.at_page) in
      rw p (held_at log f.page id len (omega (arith, after_start log f.page, f.within)) f.marked f.has f.long f.size)

  -- ---- a lookup that found

  module _ (out left : List ℕ) where
    pub record LookedUp : Type 0 where
      pub at : find_of store st id ≡ found position len
      pub left_is : left ≡ copied log (position / page_size) len out

    is_found : (r : Looking) (x : List ℕ) → with_output r x ≡ with_output (found position len) left → r ≡ found position len
    is_found r x f = ap (λ (y : WithOutput Looking). y.answer) f

    not_refused : (number value : ℕ) (x : List ℕ) → with_output (refused number value) x ≡ with_output (found position len) left → ⊥
    not_refused number value x f = let g = is_found _ x f in let z : ◌≡◌ {A = ℕ} 0 1 = cc in omega arith

    not_absent : (p : ℕ) (x : List ℕ) → with_output (absent p) x ≡ with_output (found position len) left → ⊥
    not_absent p x f = let g = is_found _ x f in let z : ◌≡◌ {A = ℕ} 0 1 = cc in omega arith

    pub looked : lookup_of store st id out ≡ with_output (found position len) left → LookedUp
    looked e = go (find_of store st id) refl
      where
        go : (r : Looking) → find_of store st id ≡ r → LookedUp
        go (found p n) f = ⊎_elim
            (λ l. absurd (not_refused 10 n out (sym (found_small store st id out p n f l) ∙ e)))
            (λ l.
            let g = sym (found_copied store st id out p n f (p / page_size) refl l) ∙ e in
            let r = is_found (found p n) _ g in
            let a : p ≡ position = cc in
            let b : n ≡ len = cc in
            record { at = f ∙ r; left_is = rw (a, b) at (sym (ap (λ (y : WithOutput Looking). y.out) g)) })
            (side (length out) n)
        go (absent p) f = absurd (not_absent p out (sym (absent_nothing store st id out p f) ∙ e))
        go (refused number value) f = absurd (not_refused number value out (sym (refused_nothing store st id out number value f) ∙ e))

-- ---- a lookup that was refused 10 found an entry of so many bytes

module _ (store : List ℕ) (st : State) (id needed : ℕ) (out left : List ℕ) where
  pub record TooSmall : Type 0 where
    pub position : ℕ
    pub at : find_of store st id ≡ found position needed

  is_ten : (r : Looking) (x : List ℕ) → with_output r x ≡ with_output (refused 10 needed) left → r ≡ refused 10 needed
  is_ten r x f = ap (λ (y : WithOutput Looking). y.answer) f

  pub looked_ten : lookup_of store st id out ≡ with_output (refused 10 needed) left → TooSmall
  looked_ten e = go (find_of store st id) refl
    where
      go : (r : Looking) → find_of store st id ≡ r → TooSmall
      go (found p n) f = ⊎_elim
          (λ l.
          let r = is_ten (refused 10 n) _ (sym (found_small store st id out p n f l) ∙ e) in
          let b : n ≡ needed = cc in
          record { position = p; at = rw b at f })
          (λ l. absurd (let r = is_ten (found p n) _ (sym (found_copied store st id out p n f (p / page_size) refl l) ∙ e) in let z : ◌≡◌ {A = ℕ} 0 1 = cc in omega arith))
          (side (length out) n)
      go (absent p) f = absurd (let r = is_ten (absent p) _ (sym (absent_nothing store st id out p f) ∙ e) in let z : ◌≡◌ {A = ℕ} 0 1 = cc in omega arith)
      go (refused number value) f =
          let r = is_ten (refused number value) _ (sym (refused_nothing store st id out number value f) ∙ e) in
          absurd (find_never_ten store st id needed (f ∙ r))
