-- The entries of a range in a sound log, page by page: each stored id of the range once, ascending. Assumes nothing.
use Prim.Native.Nat.{ℕ, zero, suc, ◌+◌, ◌-◌, ◌≤◌, ◌<◌}
use mathlib.Core.Path.{◌≡◌, refl, ap, ◌∙◌, subst}
use mathlib.Core.Bool.{true, false, ◌&&◌}
use mathlib.Core.Logic.{⊎_elim}
use mathlib.Core.List.Memᴰ
use mathlib.Core.List.{List, [], ◌∷◌, Memᴰ}
use native.Mathlib.Omega.{arith}
use borrow.Author.Tests.{eq-eqb, ne_eqb}
use lib.Dec.{eqb}
use Rattle.refusal.specs.Pick.{pick}
use Rattle.page.specs.Size.{page_count}
use Rattle.page.specs.Mark.{mark_at}
use Rattle.page.specs.Entry.{id_at, after_at}
use Rattle.page.proofs.Starting.{after_start}
use Rattle.demands.specs.Sound.{Start, Sound}
use Rattle.scanning.specs.Range.{holds_of}
use Rattle.demands.specs.Scan.{Item, item_at, Rising, OfRange, Listing}
use Rattle.scanning.specs.declared.range.Range.{Range}
use Rattle.refusal.proofs.Cases.{side, order, same_or_not, which}

-- the entries of the range that start on k pages from page p
unfoldable items_from : List ℕ → Range → ℕ → ℕ → List Item
items_from log range zero p = []
items_from log range (suc k) p =
    pick (eqb (mark_at log p) 1 && holds_of range (id_at log p))
    (item_at log p ∷ items_from log range k (p + 1))
    (items_from log range k (p + 1))

-- those from page p on
pub items_of : List ℕ → Range → ℕ → List Item
items_of log range p = items_from log range (page_count log - p) p

module _ (log : List ℕ) (range : Range) where
  pub items_end : (p : ℕ) → page_count log ≤ p → items_of log range p ≡ []
  unfolding items_of items_from
  items_end p h =
      let e : page_count log - p ≡ 0 = omega arith in
      rw e

  items_open : (p : ℕ) → p < page_count log
      → items_of log range p ≡ pick (eqb (mark_at log p) 1 && holds_of range (id_at log p)) (item_at log p ∷ items_of log range (p + 1)) (items_of log range (p + 1))
  unfolding items_of items_from
  items_open p h =
      let e : page_count log - p ≡ suc (page_count log - (p + 1)) = omega arith in
      rw e

  -- a start of the range
  pub items_take : (p : ℕ) → Start log p → holds_of range (id_at log p) ≡ true → items_of log range p ≡ item_at log p ∷ items_of log range (p + 1)
  items_take p b h = items_open p b.inside ∙ rw (eq-eqb (mark_at log p) 1 b.marked, h)

  -- any other page
  pub items_pass : (p : ℕ) → p < page_count log → (Start log p → holds_of range (id_at log p) ≡ false) → items_of log range p ≡ items_of log range (p + 1)
  items_pass p l f = items_open p l ∙ ⊎_elim
      (λ m. rw (eq-eqb (mark_at log p) 1 m, f (record { inside = l; marked = m })))
      (λ m. rw (ne_eqb (mark_at log p) 1 m))
      (same_or_not (mark_at log p) 1)

  -- d pages with no start of the range
  pub items_skip : (d p q : ℕ) → q ≡ p + d → q ≤ page_count log → ((r : ℕ) → Start log r → p ≤ r → r < q → holds_of range (id_at log r) ≡ false) → items_of log range p ≡ items_of log range q
  items_skip zero p q e l f = let z : p ≡ q = omega arith in ap (items_of log range) z
  items_skip (suc d) p q e l f =
      items_pass p (omega arith) (λ b. f p b (omega arith) (omega arith))
      ∙ items_skip d (p + 1) q (omega arith) l (λ r b m n. f r b (omega arith) n)

  module _ (s : Sound log) where
    -- after an entry of the range come those that start after it
    pub items_entry : (q : ℕ) → Start log q → holds_of range (id_at log q) ≡ true → items_of log range q ≡ item_at log q ∷ items_of log range (after_at log q)
    items_entry q b h =
        let n = after_at log q - q in
        items_take q b h ∙ ap (λ (l : List Item). item_at log q ∷ l)
        (items_skip (n - 1) (q + 1) (after_at log q) (omega (arith, after_start log q)) (s.within q b) (λ r c l m. absurd (omega (arith, s.apart q r b c (omega arith)))))

    -- an entry that is not in the range is passed over
    pub items_miss : (q : ℕ) → Start log q → holds_of range (id_at log q) ≡ false → items_of log range q ≡ items_of log range (after_at log q)
    items_miss q b h =
        let n = after_at log q - q in
        items_skip n q (after_at log q) (omega (arith, after_start log q)) (s.within q b) (λ r c l m. ⊎_elim
        (λ e. subst (λ (x : ℕ). holds_of range (id_at log x) ≡ false) e h)
        (⊎_elim (λ x. absurd (omega (arith, s.apart q r b c x))) (λ x. absurd (omega arith)))
        (order q r))

  -- ---- which entries they are

  -- an entry of the range that starts at page p or later
  record StartsFrom (p : ℕ) (x : Item) : Type 0 where
    of_range : OfRange log range x
    late : p ≤ of_range.page

  from_next : (p : ℕ) (x : Item) → StartsFrom (p + 1) x → StartsFrom p x
  from_next p x f = record { of_range = f.of_range; late = omega (arith, f.late) }

  only_from : (f p : ℕ) → page_count log ≤ p + f → (x : Item) → Memᴰ x (items_of log range p) → StartsFrom p x
  only_from zero p e x m = absurd (Memᴰ.not-nil (rw (items_end p (omega arith)) at m))
  only_from (suc f) p e x m = ⊎_elim
      (λ l. ⊎_elim
      (λ a. ⊎_elim
      (λ h. let b : Start log p = record { inside = l; marked = a } in
      ⊎_elim
      (λ i. record { of_range = record { page = p; start = b; inside = h; is = i }; late = omega arith })
      (λ i. from_next p x (only_from f (p + 1) (omega arith) x i))
      (Memᴰ.cases_cons (rw (items_take p b h) at m)))
      (λ h. from_next p x (only_from f (p + 1) (omega arith) x (rw (items_pass p l (λ b. h)) at m)))
      (which (holds_of range (id_at log p))))
      (λ a. from_next p x (only_from f (p + 1) (omega arith) x (rw (items_pass p l (λ b. absurd (a b.marked))) at m)))
      (same_or_not (mark_at log p) 1))
      (λ l. absurd (Memᴰ.not-nil (rw (items_end p l) at m)))
      (side p (page_count log))

  -- what is listed from the next page on is listed from this one
  earlier : (p : ℕ) → p < page_count log → (x : Item) → Memᴰ x (items_of log range (p + 1)) → Memᴰ x (items_of log range p)
  earlier p l x m = ⊎_elim
      (λ a. ⊎_elim
      (λ h. rw (items_take p (record { inside = l; marked = a }) h) (Memᴰ.tail m))
      (λ h. rw (items_pass p l (λ b. h)) m)
      (which (holds_of range (id_at log p))))
      (λ a. rw (items_pass p l (λ b. absurd (a b.marked))) m)
      (same_or_not (mark_at log p) 1)

  every_from : (d p q : ℕ) → q ≡ p + d → Start log q → holds_of range (id_at log q) ≡ true → Memᴰ (item_at log q) (items_of log range p)
  every_from zero p q e b h = let z : p ≡ q = omega arith in rw (z, items_take q b h) (Memᴰ.head refl)
  every_from (suc d) p q e b h = earlier p (omega (arith, b.inside)) (item_at log q) (every_from d (p + 1) q (omega arith) b h)

  item_id : (p : ℕ) → (item_at log p).id ≡ id_at log p
  unfolding item_at
  item_id p = refl

  rising_none : (l : List Item) → l ≡ [] → Rising l
  unfolding Rising
  rising_none l e = rw e tt

  rising_cons : (x : Item) (l k : List Item) → k ≡ x ∷ l → ((y : Item) → Memᴰ y l → x.id < y.id) → Rising l → Rising k
  unfolding Rising
  rising_cons x l k e a b = rw e (a, b)

  module _ (s : Sound log) where
    rising_from : (f p : ℕ) → page_count log ≤ p + f → Rising (items_of log range p)
    rising_from zero p e = rising_none (items_of log range p) (items_end p (omega arith))
    rising_from (suc f) p e = ⊎_elim
        (λ l. ⊎_elim
        (λ a. ⊎_elim
        (λ h. let b : Start log p = record { inside = l; marked = a } in
        rising_cons (item_at log p) (items_of log range (p + 1)) (items_of log range p) (items_take p b h)
        (λ y m. let g : StartsFrom (p + 1) y = only_from (page_count log) (p + 1) (omega arith) y m in
        omega (arith, item_id p, item_id g.of_range.page, ap (λ (x : Item). x.id) g.of_range.is, s.rising p g.of_range.page b g.of_range.start (omega (arith, g.late))))
        (rising_from f (p + 1) (omega arith)))
        (λ h. rw (items_pass p l (λ b. h)) (rising_from f (p + 1) (omega arith)))
        (which (holds_of range (id_at log p))))
        (λ a. rw (items_pass p l (λ b. absurd (a b.marked))) (rising_from f (p + 1) (omega arith)))
        (same_or_not (mark_at log p) 1))
        (λ l. rising_none (items_of log range p) (items_end p l))
        (side p (page_count log))

    -- each stored id in the range, once, ascending
    pub listed : Listing log range (items_of log range 0)
    listed = record {
      every = λ p b h. every_from p 0 p (omega arith) b h;
      only = λ x m. (only_from (page_count log) 0 (omega arith) x m).of_range;
      rising = rising_from (page_count log) 0 (omega arith);
    }
