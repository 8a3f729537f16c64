-- What recovery gives where the whole pages are a sound log, and the state that a log is gone on with. Assumes nothing.
use Prim.Native.Nat.{ℕ, ◌+◌, ◌-◌, ◌%◌, ◌≤◌, max}
use mathlib.Core.Path.{◌≡◌, refl, sym, ap, ◌∙◌}
use mathlib.Core.Bool.{true}
use mathlib.Core.Logic.{◌↔◌, ⊎_elim}
use mathlib.Core.List.{List}
use lib.ListN.{length, take}
use native.Mathlib.Omega.{arith}
use Rattle.refusal.proofs.Cases.{which}
use Rattle.page.specs.Size.{page_size, page_count}
use Rattle.page.specs.Entry.{id_at}
use Rattle.catalog.specs.Bounds.{Fits, too_long}
use Rattle.catalog.specs.State.{fresh, recovered_at, resumed_above}
use Rattle.catalog.specs.Recovery.{Recovering, recovered, refused, excess_of, whole_pages, above_stored, recover_log, recover_of}
use Rattle.catalog.specs.declared.state.State.{State}
use Rattle.catalog.proofs.Laws.Bounds.{fitting, not_too_long, length_log}
use Rattle.catalog.proofs.Laws.Recovery.Steps.{back_fresh, all_pages_lem, from_last, recover_bad, recover_cut}
use Rattle.demands.specs.Sound.{Sound, LastStored, nothing_stored, last_entry}
use Rattle.demands.specs.Recovery.{RightRecovery, empty, used_up, goes_on}
use Rattle.demands.proofs.Recovery.Cutting.{right_closed}

-- a length of whole pages has no excess
pub no_excess : (store : List ℕ) (n : ℕ) → n % page_size ≡ 0 → whole_pages store n ≡ take n store
no_excess store n w = let e : n - excess_of n ≡ n = omega arith in rw e

-- ---- THEOREM: recovery of any length, where the log that is left after the excess was cut off is sound

pub recover_right : (store : List ℕ) (n stored : ℕ) → Fits store n → Sound (whole_pages store n) → RightRecovery (whole_pages store n) stored (excess_of n) 0 (recover_of store n stored)
recover_right store n stored f s =
    let log = whole_pages store n in
    let m = page_count log in
    let size = length_log store (n - excess_of n) (omega (arith, f.inside)) in
    let none : m - m ≡ 0 = omega arith in
    rw (← recover_cut store n stored (not_too_long store n f) (n - excess_of n) (sym size) refl, from_last log (excess_of n))
    (rw (all_pages_lem log m refl s.pages, none) at (right_closed log s m (omega arith) m (excess_of n) stored (λ p h l. s.within p h)))

-- ---- THEOREM: of a log with no whole page, on any bytes, the state is fresh exactly with a stored ceiling of 0 or 1

module _ (store : List ℕ) (n stored : ℕ) (f : Fits store n) (none : n - excess_of n ≡ 0) where
  recovers_empty : recover_of store n stored ≡ recovered (resumed_above stored fresh) (excess_of n) 0
  recovers_empty =
      let size : length (whole_pages store n) ≡ 0 = length_log store (n - excess_of n) (omega (arith, f.inside)) ∙ none in
      let count : page_count (whole_pages store n) ≡ 0 = omega (arith, size) in
      let walked : recover_log (whole_pages store n) (excess_of n) ≡ recovered fresh (excess_of n) 0 =
      from_last (whole_pages store n) (excess_of n) ∙ (rw count (back_fresh 0 (excess_of n) (whole_pages store n) 0 refl count)) in
      sym (recover_cut store n stored (not_too_long store n f) (n - excess_of n) (none ∙ sym size) refl) ∙ ap (above_stored stored) walked

  pub empty_is_fresh : (recover_of store n stored ≡ recovered fresh (excess_of n) 0) ↔ (stored ≤ 1)
  empty_is_fresh = (
    λ e.
        let same = sym recovers_empty ∙ e in
        let st : resumed_above stored fresh ≡ fresh = cc in
        let next : max 1 stored ≡ 1 = ap (λ (x : State). x.next) st in
        omega (arith, next),
    λ l. let next : max 1 stored ≡ 1 = omega (arith, l) in recovers_empty ∙ rw next,
  )

-- a recovery that is not refused had a store and a length in bounds
pub recovered_fits : (store : List ℕ) (n stored : ℕ) (st : State) (excess dropped : ℕ) → recover_of store n stored ≡ recovered st excess dropped → Fits store n
recovered_fits store n stored st excess dropped e = ⊎_elim refused_one (fitting store n) (which (too_long store n))
  where
    refused_one : too_long store n ≡ true → Fits store n
    refused_one t =
        let bad = recover_bad store n stored t in
        cc

-- a state that goes on with a log: its length, its last stored id, and one more, or the stored ceiling
pub record Resumed (log : List ℕ) (stored : ℕ) (st : State) : Type 0 where
  pub size : st.length ≡ length log
  pub last : LastStored log st.last
  pub next : st.next ≡ max (st.last + 1) stored
  pub ceiling : st.ceiling ≡ st.next

-- what holds of 9, and of each such state, holds of a recovery
pub by_recovery : {log : List ℕ} {stored excess dropped : ℕ} (P : Recovering → Type 0) → P (refused 9 0) → ((st : State) → Resumed log stored st → P (recovered st excess dropped))
    → (r : Recovering) → RightRecovery log stored excess dropped r → P r
by_recovery {stored} P nine on r (empty z) =
    on (resumed_above stored fresh) (record { size = sym z; last = nothing_stored (λ p h. omega (arith, h.inside)) refl; next = refl; ceiling = refl })
by_recovery P nine on r (used_up p l u) = nine
by_recovery {log} {stored} P nine on r (goes_on p l u) =
    on (resumed_above stored (recovered_at (length log) (id_at log p))) (record { size = refl; last = last_entry p l refl; next = refl; ceiling = refl })

pub recovered_resumes : (store : List ℕ) (n stored : ℕ) (st : State) (excess dropped : ℕ) → Sound (whole_pages store n) → recover_of store n stored ≡ recovered st excess dropped
    → Resumed (whole_pages store n) stored st
recovered_resumes store n stored st excess dropped s e =
    by_recovery (λ r. r ≡ recovered st excess dropped → Resumed (whole_pages store n) stored st)
    (λ f. cc)
    (λ st' h f. let g : st ≡ st' = cc in rw g h)
    (recover_of store n stored) (recover_right store n stored (recovered_fits store n stored st excess dropped e) s) e
