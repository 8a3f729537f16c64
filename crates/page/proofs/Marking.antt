-- The cases of a mark, and what a choice by a mark gives in each. Assumes nothing.
use mathlib.Core.Path.{◌≡◌, refl, sym, ap, ◌∙◌}
use mathlib.Core.Bool.{Bool, true, false}
use mathlib.Core.Logic.{◌⊎◌, inl, inr}
use Prim.Native.Nat.{ℕ, ◌*◌, ◌<◌}
use mathlib.Core.List.{List}
use lib.ListN.{get_or}
use Rattle.std.specs.Prelude.{Ok, Err}
use Rattle.refusal.specs.declared.Refusal.{Refusal}
use Rattle.refusal.specs.declared.Refusal.TheVariants.{BadMark}
use native.Mathlib.Omega.{arith}
use borrow.Author.Tests.{eq-eqb, ne_eqb, eqb-true, eqb-false}
use lib.Dec.{eqb}
use Rattle.refusal.specs.Pick.{pick}
use Rattle.page.specs.Size.{page_size, page_count}
use Rattle.page.specs.Mark.{mark_at, by_mark, mark_of}
use Rattle.page.proofs.Paging.{mark_byte}
use Rattle.page.specs.declared.marks.Mark.TheVariants.{Start, Later}

-- neither 0 nor 1
abbrev pub IsBad : ℕ → Type 0
IsBad m = (m ≡ 1 → ⊥) × (m ≡ 0 → ⊥)

pub mark_cases : (m : ℕ) → (m ≡ 1) ⊎ ((m ≡ 0) ⊎ IsBad m)
mark_cases m = go (eqb m 1) (eqb m 0) refl refl
  where
    go : (x y : Bool) → eqb m 1 ≡ x → eqb m 0 ≡ y → (m ≡ 1) ⊎ ((m ≡ 0) ⊎ IsBad m)
    go true y p q = inl (eqb-true m 1 p)
    go false true p q = inr (inl (eqb-true m 0 q))
    go false false p q = inr (inr (eqb-false m 1 p, eqb-false m 0 q))

module _ {A : Type 0} (m : ℕ) (start later bad : A) where
  pub by_start : m ≡ 1 → by_mark m start later bad ≡ start
  by_start e = rw (eq-eqb m 1 e)

  pub by_later : m ≡ 0 → by_mark m start later bad ≡ later
  by_later e = rw (ne_eqb m 1 (λ f. omega arith), eq-eqb m 0 e)

  pub by_bad : IsBad m → by_mark m start later bad ≡ bad
  by_bad b = rw (ne_eqb m 1 b.0, ne_eqb m 0 b.1)

-- what the byte read says of its page
module _ (log : List ℕ) (p : ℕ) (inside : p < page_count log) where
  read_mark : mark_at log p ≡ get_or log (p * page_size) 0
  read_mark = mark_byte log p (p * page_size) (omega arith) refl

  pub read_start : get_or log (p * page_size) 0 ≡ 1 → mark_of p (mark_at log p) ≡ Ok Start
  read_start e = by_start (mark_at log p) _ _ _ (read_mark ∙ e)

  pub read_later : get_or log (p * page_size) 0 ≡ 0 → mark_of p (mark_at log p) ≡ Ok Later
  read_later e = by_later (mark_at log p) _ _ _ (read_mark ∙ e)

  pub read_bad : (get_or log (p * page_size) 0 ≡ 1 → ⊥) → (get_or log (p * page_size) 0 ≡ 0 → ⊥) → mark_of p (mark_at log p) ≡ Err (BadMark p)
  read_bad a b = by_bad (mark_at log p) _ _ _ (λ e. a (sym read_mark ∙ e), λ e. b (sym read_mark ∙ e))

-- what the answer tells of page p's mark m, and of a choice by it
module _ (p m : ℕ) where
  pub is_start : Ok Start ≡ mark_of p m → m ≡ 1
  is_start e = go (eqb m 1) (eqb m 0) refl e
    where
      go : (x y : Bool) → eqb m 1 ≡ x → Ok Start ≡ pick x (Ok Start) (pick y (Ok Later) (Err (BadMark p))) → m ≡ 1
      go true y q e = eqb-true m 1 q
      go false true q e = cc
      go false false q e = cc

  pub is_later : Ok Later ≡ mark_of p m → m ≡ 0
  is_later e = go (eqb m 1) (eqb m 0) refl e
    where
      go : (x y : Bool) → eqb m 0 ≡ y → Ok Later ≡ pick x (Ok Start) (pick y (Ok Later) (Err (BadMark p))) → m ≡ 0
      go true y q e = cc
      go false true q e = eqb-true m 0 q
      go false false q e = cc

  pub is_bad : {e : Refusal} → Err e ≡ mark_of p m → IsBad m
  is_bad {e} s = go (eqb m 1) (eqb m 0) refl refl s
    where
      go : (x y : Bool) → eqb m 1 ≡ x → eqb m 0 ≡ y → Err e ≡ pick x (Ok Start) (pick y (Ok Later) (Err (BadMark p))) → IsBad m
      go true y q r s = cc
      go false true q r s = cc
      go false false q r s = (eqb-false m 1 q, eqb-false m 0 r)

  pub names_mark : {e : Refusal} → Err e ≡ mark_of p m → e ≡ BadMark p
  names_mark {e} s =
      let b : mark_of p m ≡ Err (BadMark p) = by_bad m _ _ _ (is_bad s) in
      cc (s, b)

  module _ {A : Type 0} (start later : A) where
    -- where the answer is passed on by `?`: f is what becomes of a refusal
    pub read_by_bad : (f : Refusal → A) {e : Refusal} → Err e ≡ mark_of p m → by_mark m start later (f (BadMark p)) ≡ f e
    read_by_bad f s = by_bad m start later _ (is_bad s) ∙ ap f (sym (names_mark s))
