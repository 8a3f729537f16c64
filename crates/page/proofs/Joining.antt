-- An entry's first page and its later ones, put together. Assumes nothing.
use mathlib.Core.Path.{◌≡◌, ap, ◌∙◌}
use mathlib.Core.List.{List, ◌++◌, append-nil}
use Prim.Native.Nat.{ℕ, ◌+◌, ◌-◌, ◌*◌, ◌≤◌}
use native.Mathlib.Omega.{arith}
use lib.ListN.{length, take, drop, length-drop, length-append}
use Rattle.page.specs.Size.{page_size, later_payload, started, first_data, id_size, pages_for_data}
use Rattle.page.specs.Write.{overwritten, filled, payload_of, first_page, later_pages, entry_pages}
use Rattle.page.proofs.Counting.{later_count, pages_linear}
use Rattle.page.proofs.Heading.{length_payload, drop_payload, length_first, head_first}
use Rattle.page.proofs.Parting.{rest_of, overwritten_more}
use Rattle.page.proofs.Turning.{length_pages}
use Rattle.page.specs.Private.{head_of}

-- over the data alone: the pages after the first hold what is left of it
pub pages_are : (id : ℕ) (d : List ℕ) → entry_pages id d ≡ first_page (payload_of id d) ++ later_pages (started later_payload (length d - first_data)) (drop first_data d)
unfolding entry_pages
pages_are id d = rw (length_payload id d, later_count (length d), drop_payload id d)

-- a part over whose front a page was written that begins with an entry's head h
module _ (part₀ b : List ℕ) (id : ℕ) (h part₁ : List ℕ) (e : h ≡ head_of (id_size + length b) id) (p : part₁ ≡ overwritten part₀ (filled (h ++ take (page_size - length h) b))) where
  first_put : part₁ ≡ overwritten part₀ (first_page (payload_of id b))
  first_put = p ∙ ap (overwritten part₀) (head_first id b h e)

  pub one_page : length b ≤ first_data → part₁ ≡ overwritten part₀ (entry_pages id b)
  unfolding later_pages
  one_page s =
      let z : started later_payload (length b - first_data) ≡ 0 = omega arith in
      rw (pages_are id b, z) (simp append-nil first_put)

  -- the data after the first page's, as the code lends it
  abbrev rest : List ℕ
  rest = take (length b - first_data) (drop first_data b)

  pub more_pages : (ys : List ℕ) → ys ≡ overwritten (take (length part₁ - page_size) (drop page_size part₁)) (later_pages (started later_payload (length rest)) rest)
      → take page_size part₁ ++ (ys ++ drop (length part₁ - page_size) (drop page_size part₁)) ≡ overwritten part₀ (entry_pages id b)
  more_pages ys y =
      let later = later_pages (started later_payload (length b - first_data)) (drop first_data b) in
      let same : later_pages (started later_payload (length rest)) rest ≡ later = rw (rest_of first_data b, length-drop) in
      rw (pages_are id b)
      (overwritten_more part₀ part₁ (first_page (payload_of id b)) later _ ys page_size first_put (length_first id b) same y)

pub length_entry : (id : ℕ) (d : List ℕ) → length (entry_pages id d) ≡ pages_for_data (length d) * page_size
length_entry id d =
    let k = started later_payload (length d - first_data) in
    rw (pages_are id d) (length-append (first_page (payload_of id d)) (later_pages k (drop first_data d))
    ∙ rw (length_first id d, length_pages k (drop first_data d)) (omega (arith, pages_linear (id_size + length d))))
