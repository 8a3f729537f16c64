-- Laws of a list given value by value, and of stores that fill a list from the front. Assumes nothing.
use mathlib.Core.Path.{◌≡◌, refl, sym, ◌∙◌}
use mathlib.Core.List.{List, [], ◌∷◌, ◌++◌}
use Prim.Native.Nat.{ℕ, zero, suc, ◌+◌, ◌<◌}
use native.Mathlib.Numerals.{add-one}
use native.Mathlib.Omega.{arith}
use native.Mathlib.Decide.{dec_lt}
use lib.ListN.{length, get_or, set, drop, length-append, get_or-append}
use lib.Seq.{set_at, get_or_at, drop-cons, ext_get_or, append_snoc}
use Rattle.page.specs.Tab.{tab}

-- lists that begin with the same value and go on alike
pub cons_same : {a b : ℕ} {l m : List ℕ} → a ≡ b → l ≡ m → ◌≡◌ {A = List ℕ} (a ∷ l) (b ∷ m)
cons_same e f = cc

pub length_tab : (f : ℕ → ℕ) (n : ℕ) → length (tab f n) ≡ n
length_tab f zero = refl
length_tab f (suc n) = simp (length-append, length_tab f n, add-one)

-- one store of a loop that fills a list from the front
pub tab_store : (f : ℕ → ℕ) (n : ℕ) (l : List ℕ) → n < length l → set (tab f n ++ drop n l) n (f n) ≡ tab f (n + 1) ++ drop (n + 1) l
tab_store f n l h =
    rw (add-one, drop-cons l n 0 h, set_at (tab f n) (get_or l n 0) (drop (suc n) l) (f n) n (length_tab f n)) (sym (append_snoc (tab f n) (f n) (drop (suc n) l)))

pub get_d_tab : (f : ℕ → ℕ) (n i d : ℕ) → i < n → get_or (tab f n) i d ≡ f i
get_d_tab f zero i d h = absurd (omega arith)
get_d_tab f (suc n) i d h = elim (dec_lt i n) [
  | yes l ↦ get_or-append (tab f n) (f n ∷ []) d i (rw length_tab l) ∙ get_d_tab f n i d l
  | no g ↦
      let e : i ≡ n = omega arith in
      rw e (get_or_at (tab f n) (f n) [] d n (length_tab f n))
]

-- a list is the values that stand in it
pub tab_is : (f : ℕ → ℕ) (l : List ℕ) → ((i : ℕ) → i < length l → f i ≡ get_or l i 0) → tab f (length l) ≡ l
tab_is f l h = ext_get_or 0 (tab f (length l)) l (length_tab f (length l)) (λ i b.
    let c : i < length l = rw length_tab at b in
    get_d_tab f (length l) i 0 c ∙ h i c)

-- functions that agree give the same list
pub tab_same : (f g : ℕ → ℕ) (n : ℕ) → ((i : ℕ) → i < n → f i ≡ g i) → tab f n ≡ tab g n
tab_same f g zero h = refl
tab_same f g (suc n) h = rw (tab_same f g n (λ i l. h i (omega arith)), h n (omega arith))
