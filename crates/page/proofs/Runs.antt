-- The run of an entry's data on one of its pages is a part of that page; of an entry of one page that is all its data. Assumes nothing.
use mathlib.Core.Path.{◌≡◌, sym, ◌∙◌}
use mathlib.Core.List.{List}
use Prim.Native.Nat.{ℕ, zero, suc, ◌+◌, ◌*◌, ◌≤◌, ◌<◌}
use native.Mathlib.Omega.{arith}
use lib.ListN.{get_or, take, drop, length-take, length-drop}
use lib.Seq.{get_or-take, get_or-drop, ext_get_or, take_all}
use Rattle.page.specs.Size.{page_size, later_payload, data_start, first_data, page_count, page_at}
use Rattle.page.specs.Data.{place_of, data_of, data_at, run_from, run_at}
use Rattle.page.proofs.Listing.{get_d_tab}
use Rattle.page.proofs.Paging.{page_byte, length_page}
use Rattle.page.proofs.Placing.{place_linear, length_data}

-- data byte i of the run on page j
pub place_run : (j i : ℕ) → run_at j + i < page_size → place_of (run_from j + i) ≡ j * page_size + (run_at j + i)
unfolding run_from run_at
place_run zero i h = place_linear (0 + i) ∙ omega arith
place_run (suc j) i h = place_linear (first_data + j * later_payload + i) ∙ omega arith

module _ (log : List ℕ) (s n j m : ℕ) (of-data : run_from j + m ≤ n) (on_page : run_at j + m ≤ page_size) (inside : s + j < page_count log) where
  byte : (i : ℕ) → i < m → get_or (data_at log s n) (run_from j + i) 0 ≡ get_or (page_at log (s + j)) (run_at j + i) 0
  unfolding data_at data_of
  byte i h =
      let k = run_at j + i in
      let e : s * page_size + (j * page_size + k) ≡ (s + j) * page_size + k = omega arith in
      get_d_tab _ n (run_from j + i) 0 (omega arith)
      ∙ rw (place_run j i (omega arith), get_or-drop (s * page_size) log (j * page_size + k) 0)
      (sym (page_byte log (s + j) k (s * page_size + (j * page_size + k)) (omega arith) e))

  pub data_run : take m (drop (run_from j) (data_at log s n)) ≡ take m (drop (run_at j) (page_at log (s + j)))
  data_run = ext_get_or 0 _ _ (simp (length-take, length-drop, length_data, length_page log (s + j) inside) (omega arith)) (λ i b.
      let h : i < m = omega (arith, length-take m (drop (run_from j) (data_at log s n))) in
      get_or-take m _ i 0 h ∙ get_or-drop (run_from j) _ i 0 ∙ byte i h ∙ sym (get_or-take m _ i 0 h ∙ get_or-drop (run_at j) _ i 0))

-- the data of an entry of one page
pub data_one_page : (log : List ℕ) (s n : ℕ) → n ≤ first_data → s < page_count log → data_at log s n ≡ take n (drop data_start (page_at log s))
unfolding run_from run_at
data_one_page log s n h inside =
    let e : s + 0 ≡ s = omega arith in
    sym (take_all n (data_at log s n) (omega (arith, length_data log s n)))
    ∙ (rw e at (data_run log s n 0 n (omega arith) (omega arith) (omega arith)))

-- and where it lies in the log
pub data_one_part : (log : List ℕ) (s n : ℕ) → n ≤ first_data → s < page_count log → data_at log s n ≡ take n (drop (s * page_size + data_start) log)
data_one_part log s n h inside =
    data_one_page log s n h inside
    ∙ ext_get_or 0 _ _ (simp (length-take, length-drop, length_page log s inside) (omega arith)) (λ i b.
    let l : i < n = omega (arith, length-take n (drop data_start (page_at log s))) in
    let e : s * page_size + data_start + i ≡ s * page_size + (data_start + i) = omega arith in
    get_or-take n (drop data_start (page_at log s)) i 0 l ∙ get_or-drop data_start (page_at log s) i 0 ∙ page_byte log s (data_start + i) (s * page_size + data_start + i) (omega arith) e
    ∙ sym (get_or-take n (drop (s * page_size + data_start) log) i 0 l ∙ get_or-drop (s * page_size + data_start) log i 0))
