-- The loop that writes later pages: after j turns the first j of them stand in the part. Assumes nothing.
use mathlib.Core.Path.{◌≡◌, refl, sym, ap, ◌∙◌}
use mathlib.Core.List.{List, ◌∷◌, ◌++◌, append_assoc, append-nil}
use Prim.Native.Nat.{ℕ, zero, suc, ◌+◌, ◌-◌, ◌*◌, ◌<◌, ◌≤◌}
use native.Mathlib.Numerals.{add-one}
use native.Mathlib.Omega.{arith}
use lib.ListN.{length, take, drop, length-append, length-take}
use lib.Seq.{drop-drop}
use Rattle.page.specs.Write.{overwritten, filled, later_page, later_pages}
use Rattle.page.proofs.Filling.{length_filled}
use Rattle.page.proofs.Parting.{rest_of, overwritten_length, overwritten_more}
use Rattle.page.specs.Size.{later_payload, page_size, started}

pub length_later : (d : List ℕ) → length (later_page d) ≡ page_size
unfolding later_page
length_later d = length_filled (0 ∷ take later_payload d) (omega (arith, length-take later_payload d))

pub length_pages : (k : ℕ) (d : List ℕ) → length (later_pages k d) ≡ k * page_size
unfolding later_pages
length_pages zero d = refl
length_pages (suc k) d = length-append (later_page d) _ ∙ rw (length_later d, length_pages k (drop later_payload d)) (omega arith)

-- one page more
pages_next : (j : ℕ) (d : List ℕ) → later_pages (suc j) d ≡ later_pages j d ++ later_page (drop (j * later_payload) d)
unfolding later_pages
pages_next zero d = append-nil (later_page d)
pages_next (suc j) d =
    let e : later_payload + j * later_payload ≡ suc j * later_payload = omega arith in
    rw (pages_next j (drop later_payload d), drop-drop (j * later_payload) later_payload d, e) (sym (append_assoc (later_page d) _ _))

-- a later page has mark 0
mark_zero : (mark : ℕ) (d : List ℕ) → mark ≡ 0 → filled (mark ∷ take later_payload d) ≡ later_page d
unfolding later_page
mark_zero mark d e = rw e

-- ---- the loop

-- what holds at its head: the first j pages are written, and the rest of the part is what it was
pub record LaterLoop (part₀ b : List ℕ) (k : ℕ) (part : List ℕ) (j : ℕ) : Type 0 where
  pub most : j ≤ k
  pub count : k ≡ started later_payload (length b)
  pub room : k * page_size ≤ length part₀
  pub long : length part ≡ length part₀
  pub bytes : part ≡ overwritten part₀ (later_pages j b)

pub later_begins : (part b : List ℕ) (k : ℕ) → k ≡ started later_payload (length b) → started later_payload (length b) * page_size ≤ length part → LaterLoop part b k part 0
unfolding later_pages
later_begins part b k e r = record { most = omega arith; count = e; room = omega arith; long = refl; bytes = refl }

module _ (part₀ b : List ℕ) (k : ℕ) (part : List ℕ) (j : ℕ) (h : LaterLoop part₀ b k part j) where
  -- a page put after them
  pub later_turns : (ys part' : List ℕ) (mark : ℕ) → j < k → mark ≡ 0
      → ys ≡ overwritten (take (length part - j * page_size) (drop (j * page_size) part)) (filled (mark ∷ take later_payload (take (length b - j * later_payload) (drop (j * later_payload) b))))
      → part' ≡ take (j * page_size) part ++ (ys ++ drop (length part - j * page_size) (drop (j * page_size) part))
      → LaterLoop part₀ b k part' (j + 1)
  later_turns ys part' mark more none y w =
      let page : filled (mark ∷ take later_payload (take (length b - j * later_payload) (drop (j * later_payload) b))) ≡ later_page (drop (j * later_payload) b) =
      rw (rest_of (j * later_payload) b) (mark_zero mark (drop (j * later_payload) b) none) in
      let e : part' ≡ overwritten part₀ (later_pages (j + 1) b) =
      w ∙ rw (add-one j, pages_next j b) (overwritten_more part₀ part (later_pages j b) _ _ ys (j * page_size) h.bytes (length_pages j b) page y) in
      record {
        most = omega arith;
        count = h.count;
        room = h.room;
        long = ap length e ∙ overwritten_length part₀ (later_pages (j + 1) b) (omega (arith, length_pages (j + 1) b, h.room));
        bytes = e;
      }
