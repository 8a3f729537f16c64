-- A number in bytes, high byte first, over the number of bytes: its length, its bound, and that it reads back. Assumes nothing.
use mathlib.Core.Path.{◌≡◌, refl, sym, ap, ◌∙◌}
use mathlib.Core.List.{List, [], ◌∷◌, ◌++◌, append_assoc}
use Prim.Native.Nat.{ℕ, zero, suc, ◌+◌, ◌/◌, ◌%◌, ◌^◌, ◌<◌}
use native.Mathlib.Nat.{one-le-pow, pow-suc}
use native.Mathlib.Numerals.{add-one}
use native.Mathlib.Omega.{arith}
use lib.Arith.{mod-mul}
use lib.Dec.{lit<}
use lib.ListN.{length, get_or, length-append}
use lib.Seq.{get_or-append-add, get_or_at}
use Rattle.page.specs.Bytes.{number_at, bytes_of}

pub length_bytes : (k n : ℕ) → length (bytes_of k n) ≡ k
unfolding bytes_of
length_bytes zero n = refl
length_bytes (suc k) n = simp (length-append, length_bytes k (n / 256), add-one)

-- where two lists agree, so do their numbers
pub number_same : (l m : List ℕ) (a b k : ℕ) → ((i : ℕ) → i < k → get_or l (a + i) 0 ≡ get_or m (b + i) 0) → number_at l a k ≡ number_at m b k
unfolding number_at
number_same l m a b zero h = refl
number_same l m a b (suc k) h = rw (number_same l m a b k (λ i g. h i (omega arith)), h k (omega arith))

-- k bytes hold a number below 256 ^ k
pub number_below : (l : List ℕ) → ((i : ℕ) → get_or l i 0 < 256) → (a k : ℕ) → number_at l a k < 256 ^ k
unfolding number_at
number_below l b a zero = omega arith
number_below l b a (suc k) = rw (pow-suc 256 k) (omega (arith, number_below l b a k, b (a + k)))

-- what was put into k bytes reads back, as much of it as they hold
pub number_back : (pre : List ℕ) (k n : ℕ) (post : List ℕ) → number_at (pre ++ (bytes_of k n ++ post)) (length pre) k ≡ n % 256 ^ k
unfolding number_at bytes_of
number_back pre zero n post = omega arith
number_back pre (suc k) n post =
    let high = bytes_of k (n / 256) in
    let parted : bytes_of (suc k) n ++ post ≡ high ++ (n % 256 ∷ post) = append_assoc high (n % 256 ∷ []) post in
    let first : number_at (pre ++ (bytes_of (suc k) n ++ post)) (length pre) k ≡ n / 256 % 256 ^ k = ap (λ (l : List ℕ). number_at (pre ++ l) (length pre) k) parted ∙ number_back pre k (n / 256) (n % 256 ∷ post) in
    let byte : get_or (pre ++ (high ++ (n % 256 ∷ post))) (length pre + k) 0 ≡ n % 256 = get_or-append-add pre (high ++ (n % 256 ∷ post)) k 0 ∙ get_or_at high (n % 256) post 0 k (length_bytes k (n / 256)) in
    rw (first, parted, byte, pow-suc 256 k) (sym (mod-mul n {m = 256 ^ k} {c = 256} (one-le-pow k 256 (lit< tt)) (lit< tt)))
