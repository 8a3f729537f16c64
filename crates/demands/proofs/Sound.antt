-- What a sound log in its store is for the calls: none refuses it by 1, and it is as long as the state says. Assumes nothing.
use Prim.Native.Nat.{ℕ, ◌%◌, ◌≤◌}
use mathlib.Core.Path.{◌≡◌, ap, ◌∙◌, sym}
use mathlib.Core.Bool.{false}
use mathlib.Core.List.{List}
use borrow.Author.Tests.{le-ltb, eq-eqb}
use lib.ListN.{length, take}
use Rattle.page.specs.Size.{page_size}
use Rattle.catalog.specs.Bounds.{bad_state, bad_cursor, Good}
use Rattle.catalog.proofs.Laws.Bounds.{not_bad, length_log}
use Rattle.demands.specs.Sound.{SoundStore}

module _ {store : List ℕ} {n : ℕ} (s : SoundStore store n) where
  pub sound_length : length (take n store) ≡ n
  sound_length = length_log store n s.fits.inside

  pub sound_good : Good store n
  sound_good = record { fits = s.fits; whole = ap (λ (k : ℕ). k % page_size) (sym sound_length) ∙ s.sound.pages }

  pub sound_not_bad : bad_state store n ≡ false
  sound_not_bad = not_bad store n sound_good

-- a cursor at a page of the log is good
pub not_bad_cursor : (n cursor : ℕ) → cursor ≤ n → cursor % page_size ≡ 0 → bad_cursor n cursor ≡ false
unfolding bad_cursor
not_bad_cursor n cursor i w = rw (le-ltb n cursor i, eq-eqb (cursor % page_size) 0 w)
