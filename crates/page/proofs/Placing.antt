-- Where data bytes lie: the place in one division, within the entry's pages, and counted from where the data begins. Assumes nothing.
use mathlib.Core.Path.{◌≡◌, ◌∙◌}
use mathlib.Core.List.{List}
use Prim.Native.Nat.{ℕ, ◌+◌, ◌-◌, ◌*◌, ◌/◌, ◌%◌, ◌<◌, ◌≤◌}
use native.Mathlib.Decide.{dec_lt}
use native.Mathlib.Omega.{arith}
use borrow.Author.Tests.{lt-ltb, le-ltb}
use lib.ListN.{length, take, drop}
use lib.Seq.{get_or-drop}
use Rattle.page.specs.Size.{page_size, later_payload, first_data, data_start, id_size, pages_for_data}
use Rattle.page.specs.Data.{place_of, data_of, data_at}
use Rattle.page.proofs.Listing.{length_tab, tab_same}
use Rattle.page.proofs.Counting.{pages_linear}
use Rattle.page.proofs.Parting.{rest_of}
use Rattle.page.specs.Private.{data_from}

module _ (i : ℕ) where
  pub place_first : i < first_data → place_of i ≡ data_start + i
  unfolding place_of
  place_first h = rw (lt-ltb i first_data h)

  pub place_later : first_data ≤ i → place_of i ≡ (1 + (i - first_data) / later_payload) * page_size + (1 + (i - first_data) % later_payload)
  unfolding place_of
  place_later h = rw (le-ltb i first_data h)

  -- one mark is skipped for each page begun since the data began
  pub place_linear : place_of i ≡ data_start + (i + (i + (later_payload - first_data)) / later_payload)
  place_linear = elim (dec_lt i first_data) [
    | yes h ↦ place_first h ∙ omega arith
    | no h ↦ place_later (omega arith) ∙ omega arith
  ]

  -- each byte of n lies on the entry's pages
  pub place_within : (n : ℕ) → i < n → place_of i < pages_for_data n * page_size
  place_within n h = omega (arith, place_linear, pages_linear (id_size + n))

-- the part from byte a on, where the data begins; the bound only shows a to the checker
pub data_from_lem : (part : List ℕ) (n a : ℕ) → a ≤ length part → a ≡ data_start → data_from (take (length part - a) (drop a part)) n ≡ data_of part n
unfolding data_from data_of
data_from_lem part n a within begins = rw (begins, rest_of data_start part) (tab_same _ _ n (λ i h.
    let e : data_start + (place_of i - data_start) ≡ place_of i = omega (arith, place_linear i) in
    get_or-drop data_start part (place_of i - data_start) 0 ∙ rw e))

pub length_data : (log : List ℕ) (s n : ℕ) → length (data_at log s n) ≡ n
unfolding data_at data_of
length_data log s n = length_tab _ n
