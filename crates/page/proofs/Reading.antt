-- Reading depends only on the entry's own pages. Assumes nothing.
use mathlib.Core.Path.{◌≡◌, sym, ap, ◌∙◌}
use mathlib.Core.List.{List}
use Prim.Native.Nat.{ℕ, ◌+◌, ◌*◌, ◌/◌, ◌%◌, ◌<◌}
use native.Mathlib.Omega.{arith}
use lib.ListN.{get_or, drop}
use lib.Seq.{get_or-drop}
use Rattle.page.specs.Size.{page_size, page_count, page_at, pages_for_data}
use Rattle.page.specs.Mark.{mark_at}
use Rattle.page.specs.Entry.{length_at, id_at, entry_at}
use Rattle.page.specs.Data.{place_of, data_of, data_at}
use Rattle.page.proofs.Listing.{tab_same}
use Rattle.page.proofs.Paging.{page_byte}
use Rattle.page.proofs.Placing.{place_within}

module _ (log other : List ℕ) (p q : ℕ) (same : page_at log p ≡ page_at other q) where
  pub mark_same : mark_at log p ≡ mark_at other q
  unfolding mark_at
  mark_same = rw same

  pub length_same : length_at log p ≡ length_at other q
  unfolding length_at
  length_same = rw same

  pub id_same : id_at log p ≡ id_at other q
  unfolding id_at
  id_same = rw same

-- what starts at a page depends on that page and on how many pages there are
pub entry_same : (log other : List ℕ) (p : ℕ) → page_at log p ≡ page_at other p → page_count log ≡ page_count other → entry_at log p ≡ entry_at other p
unfolding entry_at
entry_same log other p same count = rw (length_same log other p p same, id_same log other p p same, count)

-- a byte of the part from page s on lies on a page
on_page : (log : List ℕ) (s k : ℕ) → get_or (drop (s * page_size) log) k 0 ≡ get_or (page_at log (s + k / page_size)) (k % page_size) 0
on_page log s k =
    get_or-drop (s * page_size) log k 0
    ∙ sym (page_byte log (s + k / page_size) (k % page_size) (s * page_size + k) (omega arith) (omega arith))

pub data_same : (log other : List ℕ) (s t n : ℕ) → ((j : ℕ) → j < pages_for_data n → page_at log (s + j) ≡ page_at other (t + j)) → data_at log s n ≡ data_at other t n
unfolding data_at data_of
data_same log other s t n same = tab_same _ _ n (λ i h.
    let k = place_of i in
    on_page log s k
    ∙ ap (λ (page : List ℕ). get_or page (k % page_size) 0) (same (k / page_size) (omega (arith, place_within i n h)))
    ∙ sym (on_page other t k))
