-- An entry's first page: its 12 bytes of mark, length and id, as much of the data as it holds, and zeros. Assumes nothing.
use mathlib.Core.Path.{◌≡◌, refl, sym, ap, ◌∙◌}
use mathlib.Core.List.{List, ◌∷◌, ◌++◌, append_assoc}
use Prim.Native.Nat.{ℕ, ◌+◌, ◌-◌}
use native.Mathlib.Omega.{arith}
use lib.ListN.{length, take, drop, length-append, length-take}
use Rattle.page.specs.Size.{page_size, first_payload, data_start, first_data, id_size, length_size}
use Rattle.page.specs.Bytes.{bytes_of}
use Rattle.page.specs.Write.{filled, payload_of, first_page}
use Rattle.page.proofs.Digits.{length_bytes}
use Rattle.page.proofs.Filling.{length_filled}
use Rattle.page.specs.Private.{head_of}

pub length_payload : (id : ℕ) (d : List ℕ) → length (payload_of id d) ≡ id_size + length d
length_payload id d = length-append (bytes_of id_size id) d ∙ rw (length_bytes id_size id)

pub length_head : (len id : ℕ) → length (head_of len id) ≡ data_start
length_head len id = simp (length-append, length_bytes)

-- the payload's bytes on the first page are the id and the data's first
take_payload : (id : ℕ) (d : List ℕ) → take first_payload (payload_of id d) ≡ bytes_of id_size id ++ take first_data d
unfolding bytes_of
take_payload id d = refl

-- and those after it are the data's rest
pub drop_payload : (id : ℕ) (d : List ℕ) → drop first_payload (payload_of id d) ≡ drop first_data d
unfolding bytes_of
drop_payload id d = refl

pub first_is : (id : ℕ) (d : List ℕ) → first_page (payload_of id d) ≡ filled (head_of (id_size + length d) id ++ take first_data d)
unfolding first_page
first_is id d =
    let e : 1 ∷ (bytes_of length_size (length (payload_of id d)) ++ take first_payload (payload_of id d)) ≡ head_of (id_size + length d) id ++ take first_data d =
    rw (length_payload id d, take_payload id d) (ap (λ (l : List ℕ). 1 ∷ l) (sym (append_assoc (bytes_of length_size (id_size + length d)) (bytes_of id_size id) (take first_data d)))) in
    ap filled e

pub length_first : (id : ℕ) (d : List ℕ) → length (first_page (payload_of id d)) ≡ page_size
length_first id d =
    rw (first_is id d)
    (length_filled (head_of (id_size + length d) id ++ take first_data d) (omega (arith, length-append (head_of (id_size + length d) id) (take first_data d), length_head (id_size + length d) id, length-take first_data d)))

-- the page that begins with the head h, and goes on with as much of the data as fits after it
pub head_first : (id : ℕ) (d h : List ℕ) → h ≡ head_of (id_size + length d) id → filled (h ++ take (page_size - length h) d) ≡ first_page (payload_of id d)
head_first id d h e = rw (e, length_head (id_size + length d) id) (sym (first_is id d))
