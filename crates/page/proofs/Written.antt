-- What was written reads back: the marks, the length, the id and the data of an entry's pages, and zeros after it. Assumes nothing.
use mathlib.Core.Path.{◌≡◌, refl, sym, ap, ◌∙◌}
use mathlib.Core.List.{List, [], ◌∷◌, ◌++◌, append_assoc}
use Prim.Native.Nat.{ℕ, zero, suc, ◌+◌, ◌-◌, ◌*◌, ◌/◌, ◌%◌, ◌^◌, ◌<◌, ◌≤◌}
use native.Mathlib.Nat.{mod-eq_of_lt}
use native.Mathlib.Decide.{dec_lt}
use native.Mathlib.Omega.{arith}
use lib.ListN.{length, get_or, take, drop, replicate, length-drop, length-replicate, get_or-append, get_or-eq_default}
use lib.Seq.{get_or-append-add, get_or-drop, get_or-take, take_at, ext_get_or}
use Rattle.page.specs.Size.{page_size, later_payload, page_at, started, first_data, data_end, data_start, id_size, length_size, pages_for_data, payload_start}
use Rattle.page.specs.Bytes.{bytes_of}
use Rattle.page.specs.Mark.{mark_at}
use Rattle.page.specs.Entry.{length_at, id_at}
use Rattle.page.specs.Data.{place_of, data_of, data_at}
use Rattle.page.specs.Write.{filled, payload_of, first_page, later_page, later_pages, entry_pages}
use Rattle.page.proofs.Listing.{tab_is}
use Rattle.page.proofs.Counting.{pages_linear}
use Rattle.page.proofs.Digits.{number_back, length_bytes}
use Rattle.page.proofs.Placing.{place_first, place_later, place_linear}
use Rattle.page.proofs.Paging.{mark_byte}
use Rattle.page.proofs.Filling.{zero_byte, filled_byte}
use Rattle.page.proofs.Heading.{length_head, first_is, length_first}
use Rattle.page.proofs.Turning.{length_later}
use Rattle.page.proofs.Joining.{pages_are, length_entry}
use Rattle.page.specs.Private.{head_of}

-- ---- later pages

-- byte r of what later page j holds: the data's, and 0 where there is no more
later_at : (k : ℕ) (d : List ℕ) (j r : ℕ) → length d ≤ k * later_payload → r < later_payload → get_or (later_pages k d) (j * page_size + (1 + r)) 0 ≡ get_or d (j * later_payload + r) 0
unfolding later_pages later_page
later_at zero d j r all h = sym (get_or-eq_default d 0 {n = j * later_payload + r} (omega arith))
later_at (suc k) d zero r all h =
    let p : 0 * page_size + (1 + r) ≡ suc r = omega arith in
    let q : 0 * later_payload + r ≡ r = omega arith in
    rw (p, q) (get_or-append (later_page d) _ 0 (suc r) (omega (arith, length_later d)) ∙ filled_byte (0 ∷ take later_payload d) (suc r) ∙ get_or-take later_payload d r 0 h)
later_at (suc k) d (suc j) r all h =
    let p : suc j * page_size + (1 + r) ≡ length (later_page d) + (j * page_size + (1 + r)) = omega (arith, length_later d) in
    let q : later_payload + (j * later_payload + r) ≡ suc j * later_payload + r = omega arith in
    rw p (get_or-append-add (later_page d) _ (j * page_size + (1 + r)) 0)
    ∙ later_at k (drop later_payload d) j r (omega (arith, length-drop later_payload d)) h
    ∙ get_or-drop later_payload d (j * later_payload + r) 0 ∙ rw q

later_mark : (k : ℕ) (d : List ℕ) (j : ℕ) → get_or (later_pages k d) (j * page_size) 0 ≡ 0
unfolding later_pages later_page filled
later_mark zero d j = refl
later_mark (suc k) d zero = refl
later_mark (suc k) d (suc j) =
    let p : suc j * page_size ≡ length (later_page d) + j * page_size = omega (arith, length_later d) in
    rw p (get_or-append-add (later_page d) _ (j * page_size) 0) ∙ later_mark k (drop later_payload d) j

-- ---- an entry

module _ (id : ℕ) (d : List ℕ) where
  abbrev first : List ℕ
  first = first_page (payload_of id d)

  abbrev later : List ℕ
  later = later_pages (started later_payload (length d - first_data)) (drop first_data d)

  page_zero : page_at (entry_pages id d) 0 ≡ first
  unfolding page_at
  page_zero = rw (pages_are id d) (take_at first later page_size (length_first id d))

  pub mark_first : mark_at (entry_pages id d) 0 ≡ 1
  unfolding mark_at first_page filled
  mark_first = rw page_zero

  pub mark_later : (j : ℕ) → 0 < j → j < pages_for_data (length d) → mark_at (entry_pages id d) j ≡ 0
  mark_later j some within =
      let p : j * page_size ≡ length first + (j - 1) * page_size = omega (arith, length_first id d) in
      mark_byte (entry_pages id d) j (j * page_size) (omega (arith, length_entry id d)) refl ∙ rw (pages_are id d, p) (get_or-append-add first later ((j - 1) * page_size) 0)
      ∙ later_mark (started later_payload (length d - first_data)) (drop first_data d) (j - 1)

  -- the first page by its head and what stands after it
  abbrev head : List ℕ
  head = head_of (id_size + length d) id

  pub length_first_page : length d < data_end → length_at (entry_pages id d) 0 ≡ id_size + length d
  unfolding length_at filled
  length_first_page h =
      let rest = bytes_of id_size id ++ (take first_data d ++ replicate (page_size - length (head ++ take first_data d)) 0) in
      let e : first ≡ (1 ∷ []) ++ (bytes_of length_size (id_size + length d) ++ rest) = first_is id d ∙ simp append_assoc in
      rw (page_zero, e) (number_back (1 ∷ []) length_size (id_size + length d) rest ∙ mod-eq_of_lt (omega arith))

  pub id_first_page : id < 2 ^ 64 → id_at (entry_pages id d) 0 ≡ id
  unfolding id_at filled
  id_first_page h =
      let rest = take first_data d ++ replicate (page_size - length (head ++ take first_data d)) 0 in
      let before : List ℕ = 1 ∷ bytes_of length_size (id_size + length d) in
      let until : length before ≡ payload_start = ap suc (length_bytes length_size (id_size + length d)) in
      let e : first ≡ before ++ (bytes_of id_size id ++ rest) = first_is id d ∙ simp append_assoc in
      rw (page_zero, e, ← until) (number_back before id_size id rest ∙ mod-eq_of_lt h)

  -- where data byte i would lie: that byte, and 0 where there is no more
  data_byte : (i : ℕ) → get_or (entry_pages id d) (place_of i) 0 ≡ get_or d i 0
  data_byte i =
      rw (pages_are id d) (elim (dec_lt i first_data) [
        | yes a ↦
            let p : data_start + i ≡ length head + i = omega (arith, length_head (id_size + length d) id) in
            rw (place_first i a) (get_or-append first later 0 (data_start + i) (omega (arith, length_first id d))
            ∙ rw (first_is id d, p) (filled_byte (head ++ take first_data d) (length head + i) ∙ get_or-append-add head (take first_data d) i 0)
            ∙ get_or-take first_data d i 0 a)
        | no b ↦
            let j = (i - first_data) / later_payload in
            let r = (i - first_data) % later_payload in
            let p : (1 + j) * page_size + (1 + r) ≡ length first + (j * page_size + (1 + r)) = omega (arith, length_first id d) in
            let q : first_data + (j * later_payload + r) ≡ i = omega arith in
            rw (place_later i (omega arith), p) (get_or-append-add first later (j * page_size + (1 + r)) 0)
            ∙ later_at (started later_payload (length d - first_data)) (drop first_data d) j r (omega (arith, length-drop first_data d)) (omega arith)
            ∙ get_or-drop first_data d (j * later_payload + r) 0 ∙ rw q
      ])

  pub data_first_page : data_at (entry_pages id d) 0 (length d) ≡ d
  unfolding data_at data_of
  data_first_page = tab_is _ d (λ i h. data_byte i)

  -- every byte after the payload is zero
  pub filling_zeros : drop (place_of (length d)) (entry_pages id d) ≡ replicate (pages_for_data (length d) * page_size - place_of (length d)) 0
  filling_zeros =
      let p = place_of (length d) in
      let n = pages_for_data (length d) * page_size - p in
      let size : length (drop p (entry_pages id d)) ≡ n = length-drop p (entry_pages id d) ∙ rw (length_entry id d) in
      ext_get_or 0 (drop p (entry_pages id d)) (replicate n 0) (size ∙ sym (length-replicate {A = ℕ} n 0)) (λ i b.
      let e : p + i ≡ place_of (length d + i) = omega (arith, size, place_linear (length d), place_linear (length d + i), pages_linear (id_size + length d)) in
      get_or-drop p (entry_pages id d) i 0 ∙ rw e (data_byte (length d + i))
      ∙ get_or-eq_default d 0 {n = length d + i} (omega arith) ∙ sym (zero_byte n i))
