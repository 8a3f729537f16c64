-- 11.5: the right answer of a lookup on a sound log, and that there is one. Assumes nothing.
use Prim.Native.Nat.{ℕ, ◌*◌, ◌≤◌, ◌<◌}
use mathlib.Core.Path.{◌≡◌, refl, sym, ◌∙◌}
use mathlib.Core.Logic.{⊎_elim}
use mathlib.Core.List.{List}
use native.Mathlib.Omega.{arith}
use lib.ListN.{take}
use Rattle.refusal.proofs.Cases.{side, order}
use Rattle.page.specs.Size.{page_size, page_count}
use Rattle.page.specs.Entry.{id_at, data_length_at}
use Rattle.catalog.specs.Lookup.{Looking, found, absent, refused, all_pages, find_of, lookup_of}
use Rattle.catalog.specs.declared.state.State.{State}
use Rattle.catalog.proofs.Laws.Lookup.Tests.{find_in, search_all}
use Rattle.catalog.proofs.Laws.Lookup.Handing.{found_copied, absent_nothing}
use Rattle.demands.specs.Sound.{Start, Sound, SoundStore, Stored, Missing}
use Rattle.demands.specs.Lookup.{Standing, present, missing, unsaid, standing, RightStanding, Room, RightLookup}
use Rattle.demands.proofs.Sound.{sound_not_bad}
use Rattle.demands.proofs.Lookup.AnyGuess.{any_guess_right, search_guesses}

-- ---- on a sound log there is one right answer

module _ (log : List ℕ) (s : Sound log) where
  -- ids tell entries apart
  pub same_page : (p q : ℕ) → Start log p → Start log q → id_at log p ≡ id_at log q → p ≡ q
  same_page p q hp hq e = ⊎_elim (λ m. m) (⊎_elim
      (λ m. absurd (omega (arith, s.rising p q hp hq m)))
      (λ m. absurd (omega (arith, s.rising q p hq hp m)))) (order p q)

  module _ (id : ℕ) where
    never_both : (position len place : ℕ) → Stored log id position len → Missing log id place → ⊥
    never_both position len place f m = ⊎_elim
        (λ l. omega (arith, m.below f.page f.start l, f.has))
        (λ l. omega (arith, m.above f.page f.start l, f.has))
        (side f.page m.page)

    not_before : (p q : ℕ) (e : Missing log id p) (m : Missing log id q) → e.page < m.page → ⊥
    not_before p q e m l = ⊎_elim
        (λ z. ⊎_elim (λ y. omega arith) (λ y. omega (arith, y.inside)) m.edge)
        (λ h. omega (arith, m.below e.page h l, e.above e.page h (omega arith)))
        e.edge

    pub right_unique : (r q : Standing) → RightStanding log id r → RightStanding log id q → r ≡ q
    right_unique (present position len) (present place size) f g =
        let e : f.page ≡ g.page = same_page f.page g.page f.start g.start (f.has ∙ sym g.has) in
        rw (f.at_page, f.size, g.at_page, g.size, e)
    right_unique (present position len) (missing place) f g = absurd (never_both position len place f g)
    right_unique (missing place) (present position len) f g = absurd (never_both position len place g f)
    right_unique (missing position) (missing place) f g =
        let e : f.page ≡ g.page = ⊎_elim (λ m. m) (⊎_elim (λ l. absurd (not_before position place f g l)) (λ l. absurd (not_before place position g f l))) (order f.page g.page) in
        rw (f.at_page, g.at_page, e)
    right_unique (present position len) unsaid f g = absurd g
    right_unique (missing position) unsaid f g = absurd g
    right_unique unsaid q f g = absurd f

-- ---- and the lookup gives it

module _ (store : List ℕ) (st : State) (id : ℕ) (good : SoundStore store st.length) (some : 1 ≤ id) (taken : id < st.next) where
  abbrev log : List ℕ
  log = take st.length store

  pub find_right : RightStanding log id (standing (find_of store st id))
  find_right =
      rw (find_in store st id (sound_not_bad good), search_all log st.next id (λ e. omega arith) taken)
      (any_guess_right log good.sound id st.next
      (search_guesses log id (page_count log) (all_pages log st.next) (omega arith) (record { lower = some; upper = taken })))

  -- both ways, for a stored id
  pub found_iff_stored : (position len : ℕ) → (Stored log id position len → standing (find_of store st id) ≡ present position len) × (standing (find_of store st id) ≡ present position len → Stored log id position len)
  found_iff_stored position len =
      (λ f. right_unique log good.sound id (standing (find_of store st id)) (present position len) find_right f, λ e. rw e at find_right)

  -- and for one that is not
  pub absent_iff_missing : (position : ℕ) → (Missing log id position → standing (find_of store st id) ≡ missing position) × (standing (find_of store st id) ≡ missing position → Missing log id position)
  absent_iff_missing position =
      (λ m. right_unique log good.sound id (standing (find_of store st id)) (missing position) find_right m, λ e. rw e at find_right)

  -- the same, from the page of an entry
  pub find_stored : (p : ℕ) → Start log p → id_at log p ≡ id → standing (find_of store st id) ≡ present (p * page_size) (data_length_at log p)
  find_stored p h e = (found_iff_stored (p * page_size) (data_length_at log p)).0 (record { page = p; start = h; has = e; at_page = refl; size = refl })

  -- THE LAW
  pub lookup_right : (out : List ℕ) → Room log id out → RightLookup log id out (lookup_of store st id out)
  lookup_right out room = go (find_of store st id) refl find_right
    where
      go : (r : Looking) → find_of store st id ≡ r → RightStanding log id (standing r) → RightLookup log id out (lookup_of store st id out)
      go (found position len) e f =
          rw (found_copied store st id out position len e f.page (omega (arith, f.at_page)) (room position len f)) (f, refl)
      go (absent position) e f = rw (absent_nothing store st id out position e) (f, refl)
      go (refused number value) e f = absurd f
