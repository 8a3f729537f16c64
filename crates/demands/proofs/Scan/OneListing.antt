-- What `scan_right` says names one list: two listings of a range are the same, and so are two lists that the steps from a cursor hand over. Assumes nothing.
use Prim.Native.Nat.{ℕ, ◌≤◌}
use mathlib.Core.Path.{◌≡◌, refl, sym, ap, ◌∙◌, subst}
use mathlib.Core.Logic.{◌⊎◌, inl, inr, ⊎_elim}
use mathlib.Core.List.Memᴰ
use mathlib.Core.List.{List, [], ◌∷◌, ◌++◌, Memᴰ}
use native.Mathlib.Omega.{arith}
use lib.ListN.{length, take, drop, replicate, length-replicate}
use lib.Seq.{take_at}
use Rattle.catalog.specs.Output.{WithOutput, with_output}
use Rattle.scanning.specs.Step.{Stepping, entry, end, step_of}
use Rattle.demands.specs.Scan.{Item, Hands, no_more, one_more, Rising, OfRange, Listing}
use Rattle.catalog.specs.declared.state.State.{State}
use Rattle.scanning.specs.declared.range.Range.{Range}

-- ---- one listing

abbrev Among : List Item → List Item → Type 0
Among l k = (x : Item) → Memᴰ x l → Memᴰ x k

-- the tails of two ascending lists with one head have the same members
tail_among : (x : Item) (l k : List Item) → Rising (x ∷ l) → Among (x ∷ l) (x ∷ k) → Among l k
unfolding Rising
tail_among x l k h f y m = ⊎_elim
    (λ e. absurd (omega (arith, h.0 y m, ap (λ (z : Item). z.id) e)))
    (λ i. i)
    (Memᴰ.cases_cons (f y (Memᴰ.tail m)))

rising_tail : (x : Item) (l : List Item) → Rising (x ∷ l) → Rising l
unfolding Rising
rising_tail x l h = h.1

-- two ascending lists with the same members have the same head
heads : (x y : Item) (l k : List Item) → Rising (x ∷ l) → Rising (y ∷ k) → Among (x ∷ l) (y ∷ k) → Among (y ∷ k) (x ∷ l) → x ≡ y
unfolding Rising
heads x y l k a b f g = ⊎_elim
    (λ e. e)
    (λ i. ⊎_elim (λ e. sym e) (λ j. absurd (omega (arith, b.0 x i, a.0 y j))) (Memᴰ.cases_cons (g y (Memᴰ.head refl))))
    (Memᴰ.cases_cons (f x (Memᴰ.head refl)))

rising_one : (l k : List Item) → Rising l → Rising k → Among l k → Among k l → l ≡ k
rising_one [] [] a b f g = refl
rising_one [] (y ∷ k) a b f g = absurd (Memᴰ.not-nil (g y (Memᴰ.head refl)))
rising_one (x ∷ l) [] a b f g = absurd (Memᴰ.not-nil (f x (Memᴰ.head refl)))
rising_one (x ∷ l) (y ∷ k) a b f g =
    let e : x ≡ y = heads x y l k a b f g in
    let b' : Rising (x ∷ k) = rw e b in
    let f' : Among (x ∷ l) (x ∷ k) = λ z m. subst (λ (w : Item). Memᴰ z (w ∷ k)) (sym e) (f z m) in
    let g' : Among (x ∷ k) (x ∷ l) = λ z m. g z (subst (λ (w : Item). Memᴰ z (w ∷ k)) e m) in
    rw (← e) (ap (λ (t : List Item). x ∷ t)
    (rising_one l k (rising_tail x l a) (rising_tail x k b') (tail_among x l k a f') (tail_among x k l b' g')))

pub listing_one : (log : List ℕ) (range : Range) (l k : List Item) → Listing log range l → Listing log range k → l ≡ k
listing_one log range l k a b = rising_one l k a.rising b.rising (half l k a b) (half k l b a)
  where
    half : (l k : List Item) → Listing log range l → Listing log range k → Among l k
    half l k a b x m =
        let o : OfRange log range x = a.only x m in
        Memᴰ.cast o.is (b.every o.page o.start o.inside)

-- ---- one run of steps

module _ (store : List ℕ) (st : State) (range : Range) (m : ℕ) where
  record NoMore (c : ℕ) (k : List Item) : Type 0 where
    nil : k ≡ []
    step : (out : List ℕ) → step_of store st range c out ≡ with_output (end st.length) out

  record OneMore (c : ℕ) (k : List Item) : Type 0 where
    id : ℕ
    after : ℕ
    bytes : List ℕ
    rest : List Item
    cons : k ≡ record { id = id; bytes = bytes } ∷ rest
    step : (out : List ℕ) → m ≤ length out → step_of store st range c out ≡ with_output (entry id (length bytes) after) (bytes ++ drop (length bytes) out)
    next : Hands store st range m after rest

  apart : {c : ℕ} {k : List Item} → Hands store st range m c k → NoMore c k ⊎ OneMore c k
  apart (no_more c f) = inl (record { nil = refl; step = f })
  apart (one_more c id after bytes rest f n) = inr (record { id = id; after = after; bytes = bytes; rest = rest; cons = refl; step = f; next = n })

  buffer : List ℕ
  buffer = replicate m 0

  big : m ≤ length buffer
  unfolding buffer
  big = omega (arith, length-replicate {A = ℕ} m 0)

  clash : (id len after n : ℕ) (a b : List ℕ) → with_output (entry id len after) a ≡ with_output (end n) b → ⊥
  clash id len after n a b e =
      let f : entry id len after ≡ end n = ap (λ (g : WithOutput Stepping). g.answer) e in
      cc

  -- two entries that one step hands over are the same
  record SameEntry (id id' after after' : ℕ) (bytes bytes' : List ℕ) : Type 0 where
    ids : id ≡ id'
    afters : after ≡ after'
    datas : bytes ≡ bytes'

  same_entry : (id id' after after' : ℕ) (bytes bytes' : List ℕ)
      → with_output (entry id (length bytes) after) (bytes ++ drop (length bytes) buffer) ≡ with_output (entry id' (length bytes') after') (bytes' ++ drop (length bytes') buffer)
      → SameEntry id id' after after' bytes bytes'
  same_entry id id' after after' bytes bytes' e =
      let answers : entry id (length bytes) after ≡ entry id' (length bytes') after' = ap (λ (g : WithOutput Stepping). g.answer) e in
      let sizes : length bytes ≡ length bytes' = cc in
      record {
        ids = cc;
        afters = cc;
        datas = sym (take_at bytes (drop (length bytes) buffer) (length bytes) refl) ∙ ap (λ (g : WithOutput Stepping). take (length bytes) g.out) e ∙ take_at bytes' (drop (length bytes') buffer) (length bytes) (sym sizes);
      }

  pub hands_one : {c : ℕ} {l : List Item} → Hands store st range m c l → (k : List Item) → Hands store st range m c k → l ≡ k
  hands_one (no_more c f) k b = ⊎_elim
      (λ i. sym i.nil)
      (λ i. absurd (clash _ _ _ _ _ _ (sym (i.step buffer big) ∙ f buffer)))
      (apart b)
  hands_one (one_more c id after bytes rest f n) k b = ⊎_elim
      (λ i. absurd (clash _ _ _ _ _ _ (sym (f buffer big) ∙ i.step buffer)))
      (λ i.
      let s : SameEntry id i.id after i.after bytes i.bytes = same_entry _ _ _ _ _ _ (sym (f buffer big) ∙ i.step buffer big) in
      rw (i.cons, s.ids, s.datas, hands_one n i.rest (subst (λ (x : ℕ). Hands store st range m x i.rest) (sym s.afters) i.next)))
      (apart b)
