-- What a page says to the walk back, by its mark and what starts there. Assumes nothing.
use Prim.Native.Nat.{ℕ, ◌*◌, ◌<◌}
use mathlib.Core.Path.{◌≡◌, sym}
use mathlib.Core.List.{List}
use native.Mathlib.Omega.{arith}
use borrow.Author.Tests.{lt-ltb, le-ltb, eq-eqb, ne_eqb}
use Rattle.page.specs.Size.{page_size}
use Rattle.page.specs.Mark.{mark_at}
use Rattle.page.specs.Entry.{Starting, short, cut, whole, entry_at}
use Rattle.page.proofs.Marking.{IsBad, by_start, by_later, by_bad}
use Rattle.catalog.specs.Lookup.{found, refused, ends, below, above, back, compared, saying_at}

-- ---- what starts at a page, compared with the id

module _ (id s : ℕ) (x : Starting) where
  pub compare_short : x ≡ short → ends (refused 6 s) ≡ compared id s x
  unfolding compared
  compare_short e = rw e

  pub compare_cut : (stored : ℕ) → x ≡ cut stored → ends (refused 7 s) ≡ compared id s x
  unfolding compared
  compare_cut stored e = rw e

  module _ (stored len after : ℕ) (e : x ≡ whole stored len after) where
    pub compare_same : stored ≡ id → ends (found (s * page_size) len) ≡ compared id s x
    unfolding compared
    compare_same q = rw (e, eq-eqb stored id q)

    pub compare_below : stored < id → below stored after ≡ compared id s x
    unfolding compared
    compare_below q = rw (e, ne_eqb stored id (λ z. omega arith), lt-ltb stored id q)

    pub compare_above : id < stored → above stored ≡ compared id s x
    unfolding compared
    compare_above q = rw (e, ne_eqb stored id (λ z. omega arith), le-ltb stored id (omega arith))

-- ---- by the page's mark

module _ (log : List ℕ) (id s : ℕ) where
  pub says_start : mark_at log s ≡ 1 → compared id s (entry_at log s) ≡ saying_at log id s
  unfolding saying_at
  says_start m = sym (by_start (mark_at log s) _ _ _ m)

  pub says_back : mark_at log s ≡ 0 → back ≡ saying_at log id s
  unfolding saying_at
  says_back m = sym (by_later (mark_at log s) _ _ _ m)

  pub says_bad : IsBad (mark_at log s) → ends (refused 5 s) ≡ saying_at log id s
  unfolding saying_at
  says_bad m = sym (by_bad (mark_at log s) _ _ _ m)
