-- A page with zeros after its payload: its length, its bytes, and how the writer leaves it. Assumes nothing.
use mathlib.Core.Path.{◌≡◌, refl, sym, ap, ◌∙◌}
use mathlib.Core.List.{List, ◌++◌}
use Prim.Native.Nat.{ℕ, ◌+◌, ◌-◌, ◌≤◌, min}
use native.Mathlib.Decide.{dec_lt}
use native.Mathlib.Omega.{arith}
use lib.ListN.{length, get_or, take, drop, replicate, length-append, length-take, length-drop, length-replicate, get_or-replicate, get_or-append, get_or-eq_default}
use lib.Seq.{get_or-append-add, drop-drop}
use borrow.Rule.Slice.PartMut.{put_mid}
use Rattle.page.specs.Size.{page_size}
use Rattle.page.specs.Write.{overwritten, filled}
use Rattle.page.proofs.Parting.{overwritten_length, overwritten_after, take_min}

pub length_filled : (l : List ℕ) → length l ≤ page_size → length (filled l) ≡ page_size
unfolding filled
length_filled l h = length-append l _ ∙ rw (length-replicate {A = ℕ} (page_size - length l) 0) (omega arith)

pub zero_byte : (n i : ℕ) → ◌≡◌ {A = ℕ} (get_or (replicate n 0) i 0) 0
zero_byte n i = elim (dec_lt i n) [
  | yes h ↦ get_or-replicate n i 0 0 h
  | no h ↦ get_or-eq_default (replicate n 0) 0 {n = i} (omega (arith, length-replicate {A = ℕ} n 0))
]

-- the filling adds no byte that is not 0
pub filled_byte : (l : List ℕ) (i : ℕ) → get_or (filled l) i 0 ≡ get_or l i 0
unfolding filled
filled_byte l i = elim (dec_lt i (length l)) [
  | yes h ↦ get_or-append l _ 0 i h
  | no h ↦
      let e : length l + (i - length l) ≡ i = omega arith in
      sym (ap (λ (k : ℕ). get_or (l ++ replicate (page_size - length l) 0) k 0) e)
      ∙ get_or-append-add l (replicate (page_size - length l) 0) (i - length l) 0
      ∙ zero_byte (page_size - length l) (i - length l)
      ∙ sym (get_or-eq_default l 0 {n = i} (omega arith))
]

-- ---- a loop that clears a part: the first i bytes are zeros, and the rest is what it was

pub record ClearLoop (part₀ part : List ℕ) (i : ℕ) : Type 0 where
  pub long : length part ≡ length part₀
  pub bytes : part ≡ replicate i 0 ++ drop i part₀

-- kept: docs/PROVING.md names it
pub clear_begins : (part : List ℕ) (i : ℕ) → i ≡ 0 → ClearLoop part part i
clear_begins part i e = record { long = refl; bytes = rw e }

-- ---- a page written: its head, as much of the data as it then holds, and zeros to the page's end

module _ (s head d : List ℕ) (m : ℕ) (within : length head ≤ page_size) (room : page_size ≤ length s) (e : m ≡ min (length d) (page_size - length head)) where
  abbrev front : List ℕ
  front = head ++ take (page_size - length head) d

  length_front : length front ≡ length head + m
  length_front = length-append head _ ∙ omega (arith, length-take (page_size - length head) d)

  -- x put over the front, y after it, and zs from a to z
  pub page_put : (x y zs : List ℕ) (k a z : ℕ) → x ≡ head → y ≡ take m d → k ≡ m → a ≡ length head + m → z ≡ page_size
      → let q = put_mid (length head) k (x ++ drop (length head) s) y in
      zs ≡ replicate (length (take (z - a) (drop a q))) 0 → put_mid a (z - a) q zs ≡ overwritten s (filled front)
  unfolding filled
  page_put x y zs k a z is put held at end c =
      let p = x ++ drop (length head) s in
      let q = put_mid (length head) k p y in
      let bytes : y ≡ take (page_size - length head) d = put ∙ ap (λ (j : ℕ). take j d) e ∙ take_min (page_size - length head) d in
      let long : k ≡ length (take (page_size - length head) d) = omega (arith, length-take (page_size - length head) d) in
      let two : q ≡ overwritten s front = rw (drop-drop k (length head) p, bytes, long) (overwritten_after s p head (take (page_size - length head) d) (length head) (rw is) refl) in
      let size : length q ≡ length s = ap length two ∙ overwritten_length s front (omega (arith, length_front)) in
      let count : length (take (z - a) (drop a q)) ≡ page_size - length front = omega (arith, length-take (z - a) (drop a q), length-drop a q, length_front, size) in
      let filling : List ℕ = replicate (page_size - length front) 0 in
      let past : a + (z - a) ≡ a + length filling = omega (arith, length_front, length-replicate {A = ℕ} (page_size - length front) 0) in
      rw (c, count, drop-drop (z - a) a q, past) (overwritten_after s q front filling a two (omega (arith, length_front)))
