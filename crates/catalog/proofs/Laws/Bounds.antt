-- What refusal 1 tests, and what is known where it is not given. Assumes nothing.
use Prim.Native.Nat.{ℕ, ◌%◌, ◌≤◌, ◌^◌}
use mathlib.Core.Path.{◌≡◌, refl}
use mathlib.Core.Bool.{Bool, true, false, ◌||◌}
use mathlib.Core.List.{List}
use borrow.Author.Tests.{le-ltb, eq-eqb, ltb-false, eqb-true, not-false}
use lib.ListN.{length, take}
use lib.Seq.{length-take-le}
use Rattle.std.specs.Prelude.{Ok, Err}
use Rattle.refusal.specs.Pick.{pick}
use Rattle.refusal.specs.declared.Refusal.TheVariants.{BadState}
use Rattle.page.specs.Size.{page_size}
use Rattle.catalog.specs.Bounds.{too_long, bad_state, log_of, Fits, Good}
use Rattle.catalog.specs.declared.state.State.{State}

pub neither : (s t : Bool) → (s || t) ≡ false → (s ≡ false) × (t ≡ false)
neither true t e = cc
neither false t e = (refl, e)

pub fitting : (store : List ℕ) (n : ℕ) → too_long store n ≡ false → Fits store n
unfolding too_long
fitting store n e =
    let both = neither _ _ e in
    record { small = ltb-false (2 ^ 31) (length store) both.0; inside = ltb-false (length store) n both.1 }

pub good_state : (store : List ℕ) (n : ℕ) → bad_state store n ≡ false → Good store n
unfolding bad_state
good_state store n e =
    let both = neither (too_long store n) _ e in
    record { fits = fitting store n both.0; whole = eqb-true (n % page_size) 0 (not-false _ both.1) }

pub not_too_long : (store : List ℕ) (n : ℕ) → Fits store n → too_long store n ≡ false
unfolding too_long
not_too_long store n f = rw (le-ltb (2 ^ 31) (length store) f.small, le-ltb (length store) n f.inside)

pub not_bad : (store : List ℕ) (n : ℕ) → Good store n → bad_state store n ≡ false
unfolding bad_state
not_bad store n g = rw (not_too_long store n g.fits, eq-eqb (n % page_size) 0 g.whole)

-- the log is the first n bytes
pub length_log : (store : List ℕ) (n : ℕ) → n ≤ length store → length (take n store) ≡ n
length_log store n h = length-take-le n store h

-- what is lent of a store that is not refused
pub record IsLog (store : List ℕ) (n : ℕ) (log : List ℕ) : Type 0 where
  pub good : Good store n
  pub is : log ≡ take n store
  pub long : length log ≡ n

pub is_log : (store : List ℕ) (st : State) {log : List ℕ} → Ok log ≡ log_of store st → IsLog store st.length log
unfolding log_of
is_log store st {log} e = go (bad_state store st.length) refl e
  where
    go : (b : Bool) → bad_state store st.length ≡ b → Ok log ≡ pick b (Err BadState) (Ok (take st.length store)) → IsLog store st.length log
    go true q e = cc
    go false q e =
        let is : log ≡ take st.length store = cc in
        let good = good_state store st.length q in
        record { good = good; is = is; long = rw is (length_log store st.length good.fits.inside) }
