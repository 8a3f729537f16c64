-- What a log keeps when bytes are put after it, and what an entry's pages put after it add. Assumes nothing.
use mathlib.Core.Path.{◌≡◌, ◌∙◌}
use mathlib.Core.List.{List, ◌++◌}
use Prim.Native.Nat.{ℕ, ◌+◌, ◌*◌, ◌%◌, ◌^◌, ◌<◌, ◌≤◌}
use native.Mathlib.Omega.{arith}
use native.Mathlib.Nat.{zero-add}
use lib.ListN.{length, length-append}
use Rattle.page.specs.Size.{page_size, page_count, page_at, data_end, id_size, pages_for_data}
use Rattle.page.specs.Mark.{mark_at}
use Rattle.page.specs.Entry.{length_at, id_at}
use Rattle.page.specs.Data.{data_at}
use Rattle.page.specs.Write.{entry_pages}
use Rattle.page.proofs.Paging.{page_kept, page_added}
use Rattle.page.proofs.Reading.{mark_same, length_same, id_same, data_same}
use Rattle.page.proofs.Joining.{length_entry}
use Rattle.page.proofs.Written.{mark_first, mark_later, length_first_page, id_first_page, data_first_page}

-- ---- appending changes no earlier page's mark, length, id or data

module _ (log x : List ℕ) where
  module _ (p : ℕ) (inside : p < page_count log) where
    pub mark_kept : mark_at (log ++ x) p ≡ mark_at log p
    mark_kept = mark_same (log ++ x) log p p (page_kept log x p inside)

    pub length_kept : length_at (log ++ x) p ≡ length_at log p
    length_kept = length_same (log ++ x) log p p (page_kept log x p inside)

    pub id_kept : id_at (log ++ x) p ≡ id_at log p
    id_kept = id_same (log ++ x) log p p (page_kept log x p inside)

  pub data_kept : (s n : ℕ) → s + pages_for_data n ≤ page_count log → data_at (log ++ x) s n ≡ data_at log s n
  data_kept s n within = data_same (log ++ x) log s s n (λ j h. page_kept log x (s + j) (omega arith))

-- ---- an entry's pages put after a log of whole pages read back

module _ (log : List ℕ) (id : ℕ) (d : List ℕ) (whole : length log % page_size ≡ 0) where
  abbrev entry : List ℕ
  entry = entry_pages id d

  pub length_added : length (log ++ entry) ≡ length log + pages_for_data (length d) * page_size
  length_added = length-append log entry ∙ rw (length_entry id d)

  pub whole_added : length (log ++ entry) % page_size ≡ 0
  whole_added = omega (arith, length_added)

  pub count_added : page_count (log ++ entry) ≡ page_count log + pages_for_data (length d)
  count_added = omega (arith, length_added)

  at_zero : page_at (log ++ entry) (page_count log) ≡ page_at entry 0
  at_zero = let e : page_count log + 0 ≡ page_count log = omega arith in rw e at (page_added log entry whole 0)

  pub mark_added : mark_at (log ++ entry) (page_count log) ≡ 1
  mark_added = mark_same (log ++ entry) entry (page_count log) 0 at_zero ∙ mark_first id d

  pub later_mark_added : (j : ℕ) → 0 < j → j < pages_for_data (length d) → mark_at (log ++ entry) (page_count log + j) ≡ 0
  later_mark_added j some within = mark_same (log ++ entry) entry (page_count log + j) j (page_added log entry whole j) ∙ mark_later id d j some within

  pub payload_added : length d < data_end → length_at (log ++ entry) (page_count log) ≡ id_size + length d
  payload_added h = length_same (log ++ entry) entry (page_count log) 0 at_zero ∙ length_first_page id d h

  pub id_added : id < 2 ^ 64 → id_at (log ++ entry) (page_count log) ≡ id
  id_added h = id_same (log ++ entry) entry (page_count log) 0 at_zero ∙ id_first_page id d h

  pub data_added : data_at (log ++ entry) (page_count log) (length d) ≡ d
  data_added = data_same (log ++ entry) entry (page_count log) 0 (length d) (λ j h. rw (zero-add j) (page_added log entry whole j)) ∙ data_first_page id d
