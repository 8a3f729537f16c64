-- What starts at a page: read from the part from its start page, and what a whole entry is. Assumes nothing.
use mathlib.Core.Path.{◌≡◌, refl, sym, ◌∙◌}
use mathlib.Core.Bool.{Bool, true, false}
use mathlib.Core.List.{List}
use Prim.Native.Nat.{ℕ, ◌+◌, ◌-◌, ◌*◌, ◌≤◌, ◌<◌}
use native.Mathlib.Omega.{arith}
use borrow.Author.Tests.{lt-ltb, le-ltb, ltb-true, ltb-false}
use lib.Dec.{ltb}
use lib.ListN.{length, take, drop}
use lib.Seq.{get_or-drop}
use Rattle.std.specs.Prelude.{Ok}
use Rattle.refusal.specs.Pick.{pick}
use Rattle.page.specs.declared.entry.Whole as entire
use Rattle.page.specs.Size.{page_size, length_size, id_size, payload_start, pages_for, pages_for_data, page_count, page_at}
use Rattle.page.specs.Bytes.{number_at}
use Rattle.page.specs.Entry.{Starting, short, cut, whole, whole_of, length_at, id_at, data_length_at, after_at, entry_at}
use Rattle.page.proofs.Counting.{pages_some}
use Rattle.page.proofs.Digits.{number_same}
use Rattle.page.proofs.Paging.{page_byte}
use Rattle.page.proofs.Parting.{rest_of}

-- ---- an entry read from the part of the log from its start page

module _ (log : List ℕ) (s : ℕ) where
  -- a number of the start page, read in the part from there on
  header : (a k : ℕ) → a + k ≤ page_size → number_at (take (length log - s * page_size) (drop (s * page_size) log)) a k ≡ number_at (page_at log s) a k
  header a k h = rw (rest_of (s * page_size) log) (number_same _ _ a a k (λ i l.
      get_or-drop (s * page_size) log (a + i) 0 ∙ sym (page_byte log s (a + i) (s * page_size + (a + i)) (omega arith) refl)))

  module _ (n : ℕ) (e : n ≡ number_at (take (length log - s * page_size) (drop (s * page_size) log)) 1 length_size) where
    size : length_at log s ≡ n
    unfolding length_at
    size = sym (e ∙ header 1 length_size (omega arith))

    pub reads_short : n < id_size → short ≡ entry_at log s
    unfolding entry_at
    reads_short a = rw (size, lt-ltb n id_size a)

    module _ (a : id_size ≤ n) (after : ℕ) (f : after ≡ s + pages_for n)
        (id : ℕ) (i : id ≡ number_at (take (length log - s * page_size) (drop (s * page_size) log)) payload_start id_size) where
      named : id_at log s ≡ id
      unfolding id_at
      named = sym (i ∙ header payload_start id_size (omega arith))

      pub reads_cut : page_count log < after → cut id ≡ entry_at log s
      unfolding entry_at
      reads_cut b = rw (size, named, le-ltb n id_size a, ← f, lt-ltb (page_count log) after b)

      pub reads_whole : after ≤ page_count log → (len : ℕ) → len ≡ n - id_size → whole id len after ≡ entry_at log s
      unfolding entry_at
      reads_whole b len l = rw (size, named, l, le-ltb n id_size a, ← f, le-ltb (page_count log) after b)

-- ---- what the code's answer for what starts at page s tells

pub the_whole : (s : ℕ) (st : Starting) {w : entire.Whole} → Ok w ≡ whole_of s st → st ≡ whole w.id w.length w.after
the_whole s short h = cc
the_whole s (cut id) h = cc
the_whole s (whole id len after) h = cc

-- ---- a whole entry

pub record IsWhole (log : List ℕ) (s id len after : ℕ) : Type 0 where
  pub long : id_size ≤ length_at log s
  pub within : after ≤ page_count log
  pub id_is : id ≡ id_at log s
  pub len_is : len ≡ data_length_at log s
  pub after_is : after ≡ after_at log s

pub is_whole : {log : List ℕ} {s id len after : ℕ} → entry_at log s ≡ whole id len after → IsWhole log s id len after
unfolding entry_at
is_whole {log} {s} {id} {len} {after} e = go (ltb (length_at log s) id_size) (ltb (page_count log) (after_at log s)) refl refl e
  where
    go : (x y : Bool) → ltb (length_at log s) id_size ≡ x → ltb (page_count log) (after_at log s) ≡ y
        → pick x short (pick y (cut (id_at log s)) (whole (id_at log s) (data_length_at log s) (after_at log s))) ≡ whole id len after
        → IsWhole log s id len after
    go true y p q e = cc
    go false true p q e = cc
    go false false p q e = record {
      long = ltb-false (length_at log s) id_size p;
      within = (let a : after ≡ after_at log s = cc in omega (arith, ltb-false (page_count log) (after_at log s) q));
      id_is = cc;
      len_is = cc;
      after_is = cc;
    }

-- a cut entry's pages go past the log's
pub is_cut : (log : List ℕ) (s : ℕ) {id : ℕ} → entry_at log s ≡ cut id → page_count log < after_at log s
unfolding entry_at
is_cut log s {id} e = go (ltb (length_at log s) id_size) (ltb (page_count log) (after_at log s)) refl e
  where
    go : (x y : Bool) → ltb (page_count log) (after_at log s) ≡ y
        → pick x short (pick y (cut (id_at log s)) (whole (id_at log s) (data_length_at log s) (after_at log s))) ≡ cut id
        → page_count log < after_at log s
    go true y q e = cc
    go false true q e = ltb-true (page_count log) (after_at log s) q
    go false false q e = cc

-- a start whose length and pages are right is a whole entry
pub whole_at : (log : List ℕ) (s : ℕ) → id_size ≤ length_at log s → after_at log s ≤ page_count log → entry_at log s ≡ whole (id_at log s) (data_length_at log s) (after_at log s)
unfolding entry_at
whole_at log s l w = rw (le-ltb (length_at log s) id_size l, le-ltb (page_count log) (after_at log s) w)

-- and one whose pages go past the log's is a cut one
pub cut_at : (log : List ℕ) (s : ℕ) → id_size ≤ length_at log s → page_count log < after_at log s → entry_at log s ≡ cut (id_at log s)
unfolding entry_at
cut_at log s l w = rw (le-ltb (length_at log s) id_size l, lt-ltb (page_count log) (after_at log s) w)

-- the pages of an entry are those of its data
pub after_data : (log : List ℕ) (s : ℕ) → id_size ≤ length_at log s → after_at log s ≡ s + pages_for_data (data_length_at log s)
after_data log s l = let e : id_size + data_length_at log s ≡ length_at log s = omega arith in rw e

-- an entry ends after the page at which it starts
pub after_start : (log : List ℕ) (s : ℕ) → s < after_at log s
after_start log s = omega (arith, pages_some (length_at log s))
