-- Laws of parts of lists: a part lent, and what was put over its front, said of the whole. Assumes nothing.
use mathlib.Core.Path.{◌≡◌, ◌∙◌}
use mathlib.Core.List.{List, [], ◌++◌, append_assoc, append-nil}
use Prim.Native.Nat.{ℕ, ◌+◌, ◌-◌, ◌≤◌, min}
use native.Mathlib.Nat.{lt_of_not-le, min-eq_left, min-eq_right, le_of_lt}
use native.Mathlib.Decide.{dec_le}
use native.Mathlib.Omega.{arith}
use lib.ListN.{length, take, drop, length-drop, length-append, drop_of_length-le}
use lib.Seq.{take_all, length-take-le, drop-drop, take_at, drop_at}
use Rattle.page.specs.Data.{data_at, copied}
use Rattle.page.specs.Write.{overwritten}

-- `&l[a..]` is `drop a l`
pub rest_of : (a : ℕ) (l : List ℕ) → take (length l - a) (drop a l) ≡ drop a l
rest_of a l = take_all (length l - a) (drop a l) (omega (arith, length-drop a l))

none_after : (a : ℕ) (l : List ℕ) → drop (length l - a) (drop a l) ≡ []
none_after a l = drop_of_length-le (drop a l) {i = length l - a} (omega (arith, length-drop a l))

-- what is put over the front of a part `&mut l[a..]`, said of the whole
pub put_back : (a : ℕ) (l s ys : List ℕ) → ys ≡ overwritten (take (length l - a) (drop a l)) s → take a l ++ (ys ++ drop (length l - a) (drop a l)) ≡ take a l ++ (s ++ drop (a + length s) l)
put_back a l s ys e = simp (e, rest_of, none_after, append-nil, drop-drop)

-- as much of l as there is, up to k
pub take_min : (k : ℕ) (l : List ℕ) → take (min (length l) k) l ≡ take k l
take_min k l = elim (dec_le (length l) k) [ yes h ↦ rw (take_all k l h) (take_all (min (length l) k) l (omega (arith, min-eq_left h))) | no h ↦ rw (min-eq_right (le_of_lt (lt_of_not-le h))) ]

pub overwritten_length : (old new : List ℕ) → length new ≤ length old → length (overwritten old new) ≡ length old
overwritten_length old new h = simp (length-append, length-drop) (omega arith)

-- B after A, which was put over the front of s
pub overwritten_after : (s p A B : List ℕ) (n : ℕ) → p ≡ overwritten s A → length A ≡ n → take n p ++ (B ++ drop (n + length B) p) ≡ overwritten s (A ++ B)
overwritten_after s p A B n e l =
    rw (← drop-drop (length B) n p, e, take_at A (drop (length A) s) n l, drop_at A (drop (length A) s) n l, drop-drop (length B) (length A) s)
    (simp (append_assoc, length-append))

-- B put after A, over the front of the part from there on
pub overwritten_more : (s p A B C ys : List ℕ) (n : ℕ) → p ≡ overwritten s A → length A ≡ n → C ≡ B → ys ≡ overwritten (take (length p - n) (drop n p)) C
    → take n p ++ (ys ++ drop (length p - n) (drop n p)) ≡ overwritten s (A ++ B)
overwritten_more s p A B C ys n e l same y = put_back n p C ys y ∙ rw same (overwritten_after s p A B n e l)

-- n data bytes put over the front of an output, in a part of it that has as many
pub copied_part : (log : List ℕ) (s n : ℕ) (out : List ℕ) → n ≤ length out → data_at log s (length (take n out)) ++ drop n out ≡ copied log s n out
copied_part log s n out h = rw (length-take-le n out h)
