-- The lookup after the search: refusal 10, the data handed over, or nothing. Assumes nothing.
use Prim.Native.Nat.{ℕ, ◌+◌, ◌/◌, ◌≤◌, ◌<◌}
use mathlib.Core.Path.{◌≡◌}
use mathlib.Core.List.{List, ◌++◌}
use native.Mathlib.Omega.{arith}
use lib.ListN.{length, take, drop}
use Rattle.page.specs.Size.{page_size, pages_for_data, page_count}
use Rattle.page.specs.Data.{data_at, copied}
use Rattle.page.proofs.Parting.{copied_part}
use Rattle.page.proofs.Starting.{after_data}
use Rattle.catalog.specs.Output.{with_output}
use Rattle.catalog.specs.Lookup.{found, absent, refused, find_of, hand_found, lookup_of}
use Rattle.catalog.specs.declared.state.State.{State}
use Rattle.catalog.proofs.Laws.Output.{hand_small, hand_copied}
use Rattle.catalog.proofs.Laws.Lookup.Positions.{found_whole}

module _ (store : List ℕ) (st : State) (id : ℕ) where
  abbrev log : List ℕ
  log = take st.length store

  -- the pages of the data that is found, from the entry's page on or from one before it, lie in the log
  pub data_within : (position len : ℕ) → find_of store st id ≡ found position len → (s : ℕ) → s ≤ position / page_size → s + pages_for_data len ≤ page_count log
  data_within position len f s p =
      let h = found_whole store st id position len f in
      rw h.size (omega (arith, h.at_page, h.within, after_data log h.page h.long))

  module _ (out : List ℕ) where
    module _ (position len : ℕ) (f : find_of store st id ≡ found position len) where
      pub found_small : length out < len → lookup_of store st id out ≡ with_output (refused 10 len) out
      unfolding lookup_of hand_found
      found_small l = rw f (hand_small refused (found position len) log (position / page_size) len out l)

      -- s is the entry's page
      pub found_copied : (s : ℕ) → s ≡ position / page_size → len ≤ length out → lookup_of store st id out ≡ with_output (found position len) (copied log s len out)
      unfolding lookup_of hand_found
      found_copied s p l = rw (f, p) (hand_copied refused (found position len) log (position / page_size) len out l)

      -- the data is put to a part of the output
      pub found_put : (s : ℕ) → s ≡ position / page_size → len ≤ length out
          → lookup_of store st id out ≡ with_output (found position len) (data_at log s (length (take len out)) ++ drop len out)
      found_put s p l = rw (copied_part log s len out l) (found_copied s p l)

    pub absent_nothing : (position : ℕ) → find_of store st id ≡ absent position → lookup_of store st id out ≡ with_output (absent position) out
    unfolding lookup_of hand_found
    absent_nothing position f = rw f

    pub refused_nothing : (number value : ℕ) → find_of store st id ≡ refused number value → lookup_of store st id out ≡ with_output (refused number value) out
    unfolding lookup_of hand_found
    refused_nothing number value f = rw f
