-- Pages of a log: a page's bytes where they lie, and what a log keeps and gains when bytes are put after it. Assumes nothing.
use mathlib.Core.Path.{◌≡◌, sym, ◌∙◌}
use mathlib.Core.List.{List, ◌++◌}
use Prim.Native.Nat.{ℕ, ◌+◌, ◌-◌, ◌*◌, ◌%◌, ◌<◌, ◌≤◌}
use native.Mathlib.Omega.{arith}
use lib.Dec.{lit<}
use lib.ListN.{length, get_or, drop, length-drop, length-take}
use lib.Seq.{get_or-take, get_or-drop, take-append-le, drop-append-le, drop-append-add, drop-drop}
use Rattle.page.specs.Size.{page_size, page_count, page_at}
use Rattle.page.specs.Mark.{mark_at}

-- byte k of page p, which is byte m of the log
pub page_byte : (log : List ℕ) (p k m : ℕ) → k < page_size → m ≡ p * page_size + k → get_or (page_at log p) k 0 ≡ get_or log m 0
unfolding page_at
page_byte log p k m h e = rw e (get_or-take page_size (drop (p * page_size) log) k 0 h ∙ get_or-drop (p * page_size) log k 0)

-- byte m of a log, with which page p begins, is its mark; the bound only shows m to the checker
pub mark_byte : (log : List ℕ) (p m : ℕ) → m < length log → m ≡ p * page_size → mark_at log p ≡ get_or log m 0
unfolding mark_at
mark_byte log p m within e = page_byte log p 0 m (lit< tt) (omega arith)

pub length_page : (log : List ℕ) (p : ℕ) → p < page_count log → length (page_at log p) ≡ page_size
unfolding page_at
length_page log p h = simp (length-take, length-drop) (omega arith)

-- logs that agree from page s on have the same pages from there on
pub page_from : (log other : List ℕ) (s p : ℕ) → s ≤ p → drop (s * page_size) log ≡ drop (s * page_size) other → page_at log p ≡ page_at other p
unfolding page_at
page_from log other s p h same =
    let e : s * page_size + (p - s) * page_size ≡ p * page_size = omega arith in
    let further : (l : List ℕ) → drop (p * page_size) l ≡ drop ((p - s) * page_size) (drop (s * page_size) l) = λ l. sym (drop-drop ((p - s) * page_size) (s * page_size) l ∙ rw e) in
    rw (further log, further other, same)

module _ (log x : List ℕ) where
  -- appending changes no earlier page
  pub page_kept : (p : ℕ) → p < page_count log → page_at (log ++ x) p ≡ page_at log p
  unfolding page_at
  page_kept p h =
      rw (drop-append-le (p * page_size) log x (omega arith))
      (take-append-le page_size (drop (p * page_size) log) x (omega (arith, length-drop (p * page_size) log)))

  -- and the pages after it are those of what was appended
  pub page_added : length log % page_size ≡ 0 → (j : ℕ) → page_at (log ++ x) (page_count log + j) ≡ page_at x j
  unfolding page_at
  page_added whole j =
      let e : (page_count log + j) * page_size ≡ length log + j * page_size = omega arith in
      rw (e, drop-append-add log x (j * page_size))
