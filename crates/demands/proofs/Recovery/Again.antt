-- On any bytes: what is left, dropped and cut off adds up; recovery of what is left gives the same state and drops nothing; and the entry at which it ended stands apart. Assumes nothing.
use Prim.Native.Nat.{ℕ, zero, suc, ◌+◌, ◌-◌, ◌*◌, ◌≤◌, ◌<◌, max}
use mathlib.Core.Path.{◌≡◌, refl, sym, ap, ◌∙◌}
use mathlib.Core.Logic.{◌⊎◌, inl, inr, ⊎_elim}
use mathlib.Core.List.{List}
use lib.ListN.{length, take}
use lib.Seq.{take-take}
use native.Mathlib.Omega.{arith}
use Rattle.refusal.proofs.Cases.{same_or_not, side}
use Rattle.page.specs.Size.{page_size, pages_for, page_count}
use Rattle.page.specs.Mark.{mark_at}
use Rattle.page.specs.Entry.{Starting, short, cut, whole, after_at, entry_at}
use Rattle.page.proofs.Marking.{mark_cases}
use Rattle.page.proofs.Starting.{is_whole}
use Rattle.catalog.specs.Bounds.{Fits, Good}
use Rattle.catalog.specs.State.{fresh, recovered_at, resumed_above, top_id}
use Rattle.catalog.specs.Recovery.{Recovering, recovered, refused, at_whole, first_pages, walk_back, excess_of, whole_pages, above_stored, recover_log, recover_of}
use Rattle.catalog.specs.declared.state.State.{State}
use Rattle.catalog.proofs.Laws.Bounds.{not_too_long, length_log}
use Rattle.catalog.proofs.Laws.Recovery.Steps.{whole_used, whole_goes_on, back_later, back_bad, back_short, back_cut, back_whole, back_fresh, back_none, length_first, count_first, first_first, all_pages_lem, from_last, recover_cut}
use Rattle.demands.specs.Recovery.{Apart, EndedAt}
use Rattle.demands.proofs.Front.{mark_front, length_front, id_front}
use Rattle.demands.proofs.Recovery.Resuming.{recovered_fits}

-- no refusal is a state
not_refused : (st : State) (excess dropped number value : ℕ) → refused number value ≡ recovered st excess dropped → ⊥
not_refused st excess dropped number value e = let z : ◌≡◌ {A = ℕ} 0 1 = cc in omega arith

module _ (log : List ℕ) (pages excess : ℕ) (st : State) (said dropped : ℕ) where
  -- what is left, what is told of the rest, and its own recovery
  record Same : Type 0 where
    pub left : ℕ
    pub inside : left ≤ page_count log
    pub size : st.length ≡ left * page_size
    pub told : said ≡ excess
    pub gone : dropped ≡ pages - left
    pub again : recover_log (first_pages log left) 0 ≡ recovered st 0 0
    pub ended : (left ≡ 0) ⊎ EndedAt log st

  module _ (left : ℕ) (inside : left ≤ page_count log) where
    abbrev front : List ℕ
    front = first_pages log left

    -- pages with mark 0 are passed, whatever is reported
    passed : (e k q : ℕ) → ((p : ℕ) → q ≤ p → p < q + k → mark_at front p ≡ 0) → walk_back left e front (q + k) ≡ walk_back left e front q
    passed e zero q clear = let z : q + 0 ≡ q = omega arith in rw z
    passed e (suc k) q clear =
        back_later left e front (q + k) (q + suc k) (omega arith) (clear (q + k) (omega arith) (omega arith))
        ∙ passed e k q (λ p l b. clear p l (omega arith))

    -- a whole entry after whose start no other starts in what is left
    apart_there : (p : ℕ) → p < left → ((i : ℕ) → suc p ≤ i → i < left → mark_at front i ≡ 0) → mark_at front p ≡ 1 → (id len after : ℕ) → entry_at front p ≡ whole id len after → Apart log p
    apart_there p below clear m id len after h =
        let w = is_whole h in
        let ends : after_at log p ≤ left = omega (arith, w.within, w.after_is, count_first log left inside, ap pages_for (length_front log left inside p below)) in
        record {
          start = record { inside = omega arith; marked = mark_front log left inside p below ∙ m };
          before = λ q k l. ⊎_elim
              (λ b. absurd (let z = clear q (omega arith) b in omega (arith, mark_front log left inside q b, k.marked, z)))
              (λ b. omega (arith, ends, b))
              (side q left);
          within = omega (arith, ends, inside);
        }

    -- the walk stopped at the whole entry at page p
    stops : (p : ℕ) → p < left → ((i : ℕ) → suc p ≤ i → i < left → mark_at front i ≡ 0) → mark_at front p ≡ 1 → (id len after : ℕ) → entry_at front p ≡ whole id len after
        → at_whole (length front) id excess (pages - page_count front) ≡ recovered st said dropped → Same
    stops p below clear m id len after h e = ⊎_elim
        (λ u. absurd (not_refused st said dropped 9 0 (whole_used (length front) id excess (pages - page_count front) u ∙ e)))
        (λ u.
        let is = whole_goes_on (length front) id excess (pages - page_count front) u _ refl ∙ e in
        let state_is : recovered_at (length front) id ≡ st = cc in
        let count = count_first log left inside in
        let k = left - suc p in
        let there : suc p + k ≡ left = omega arith in
        let none : left - page_count front ≡ 0 = omega (arith, count) in
        let walked : walk_back left 0 front left ≡ walk_back left 0 front (suc p) = rw there at (passed 0 k (suc p) (λ i l b. clear i l (omega arith))) in
        record {
          left = left;
          inside = inside;
          size = ap (λ (s : State). s.length) (sym state_is) ∙ length_first log left inside;
          told = cc;
          gone = (let g : dropped ≡ pages - page_count front = cc in rw count at g);
          again = from_last front 0 ∙ (rw count (walked ∙ back_whole left 0 front p (suc p) refl m id len after h ∙ ap (at_whole (length front) id 0) none ∙ sym (whole_goes_on (length front) id 0 0 u st (sym state_is))));
          ended = inr (record {
            page = p;
            apart = apart_there p below clear m id len after h;
            has = id_front log left inside p below ∙ sym (is_whole h).id_is ∙ ap (λ (s : State). s.last) state_is;
          });
        })
        (same_or_not id top_id)

  same_from : (q left : ℕ) (inside : left ≤ page_count log) → q ≤ left → ((p : ℕ) → q ≤ p → p < left → mark_at (first_pages log left) p ≡ 0)
      → walk_back pages excess (first_pages log left) q ≡ recovered st said dropped → Same
  same_from zero left inside l clear e = ⊎_elim
      (λ z.
      let is = sym (back_fresh pages excess (first_pages log left) 0 refl z) ∙ e in
      let state_is : fresh ≡ st = cc in
      let n = count_first log left inside in
      record {
        left = left;
        inside = inside;
        size = ap (λ (s : State). s.length) (sym state_is) ∙ omega (arith, n);
        told = cc;
        gone = (let g : dropped ≡ pages = cc in omega (arith, n));
        ended = inl (omega (arith, n, z));
        again = from_last (first_pages log left) 0 ∙ (rw z (back_fresh 0 0 (first_pages log left) 0 refl z ∙ ap (λ (s : State). recovered s 0 0) state_is));
      })
      (λ some. absurd (not_refused st said dropped 8 0 (sym (back_none pages excess (first_pages log left) 0 refl some) ∙ e)))
      (same_or_not (page_count (first_pages log left)) 0)
  same_from (suc p) left inside l clear e = ⊎_elim
      (λ m. start m (entry_at (first_pages log left) p) refl (same_from p))
      (⊎_elim
      (λ m. same_from p left inside (omega arith) (λ i a b. ⊎_elim (λ k. clear i k b) (λ k. let f : i ≡ p = omega arith in rw f m) (side p i)) (sym (back_later pages excess (first_pages log left) p (suc p) refl m) ∙ e))
      (λ m. absurd (not_refused st said dropped 5 p (sym (back_bad pages excess (first_pages log left) p (suc p) refl m) ∙ e))))
      (mark_cases (mark_at (first_pages log left) p))
    where
      start : mark_at (first_pages log left) p ≡ 1 → (x : Starting) → entry_at (first_pages log left) p ≡ x
          → ((left' : ℕ) (inside' : left' ≤ page_count log) → p ≤ left' → ((i : ℕ) → p ≤ i → i < left' → mark_at (first_pages log left') i ≡ 0)
          → walk_back pages excess (first_pages log left') p ≡ recovered st said dropped → Same)
          → Same
      start m short h go = absurd (not_refused st said dropped 6 p (sym (back_short pages excess (first_pages log left) p (suc p) refl m h) ∙ e))
      start m (cut id) h go =
          go p (omega arith) (omega arith) (λ i a b. absurd (omega arith))
          (rw (first_first log left inside p (omega arith)) at (sym (back_cut pages excess (first_pages log left) p (suc p) refl m id h) ∙ e))
      start m (whole id len after) h go = stops left inside p (omega arith) clear m id len after h (sym (back_whole pages excess (first_pages log left) p (suc p) refl m id len after h) ∙ e)

-- from the last page of all
same_all : (log : List ℕ) (excess : ℕ) (st : State) (said dropped : ℕ) → first_pages log (page_count log) ≡ log → recover_log log excess ≡ recovered st said dropped → Same log (page_count log) excess st said dropped
same_all log excess st said dropped all e =
    same_from log (page_count log) excess st said dropped (page_count log) (page_count log) (omega arith) (omega arith)
    (λ p a b. absurd (omega arith)) (rw all (sym (from_last log excess) ∙ e))

-- ---- the log's own state, before the stored ceiling

record Beneath (stored : ℕ) (r : Recovering) (st : State) (excess dropped : ℕ) : Type 0 where
  pub own : State
  pub is : r ≡ recovered own excess dropped
  pub lifted : resumed_above stored own ≡ st

beneath : (stored : ℕ) (r : Recovering) (st : State) (excess dropped : ℕ) → above_stored stored r ≡ recovered st excess dropped → Beneath stored r st excess dropped
beneath stored (recovered own said gone) st excess dropped e =
    let f : said ≡ excess = cc in
    let g : gone ≡ dropped = cc in
    record { own = own; is = rw (f, g); lifted = cc }
beneath stored (refused number value) st excess dropped e = absurd (not_refused st excess dropped number value e)

module _ (store : List ℕ) (n stored : ℕ) (st : State) (excess dropped : ℕ) (e : recover_of store n stored ≡ recovered st excess dropped) where
  abbrev w : ℕ
  w = n - excess_of n

  abbrev log : List ℕ
  log = whole_pages store n

  f : Fits store n
  f = recovered_fits store n stored st excess dropped e

  size : length log ≡ w
  size = length_log store w (omega (arith, f.inside))

  b : Beneath stored (recover_log log (excess_of n)) st excess dropped
  b = beneath stored (recover_log log (excess_of n)) st excess dropped (recover_cut store n stored (not_too_long store n f) w (sym size) refl ∙ e)

  s : Same log (page_count log) (excess_of n) b.own excess dropped
  s = same_all log (excess_of n) b.own excess dropped (all_pages_lem log (page_count log) refl (omega (arith, size))) b.is

  same_length : st.length ≡ b.own.length
  same_length = ap (λ (x : State). x.length) (sym b.lifted)

  same_last : st.last ≡ b.own.last
  same_last = ap (λ (x : State). x.last) (sym b.lifted)

  -- ---- THEOREM: what is left, what was dropped and the excess add up

  pub recovered_adds_up : st.length + dropped * page_size + excess ≡ n
  recovered_adds_up = omega (arith, same_length, s.size, s.told, s.gone, s.inside, size)

  -- ---- THEOREM: recovery of what is left

  -- no call refuses its state
  pub recovered_good : Good store st.length
  recovered_good = record {
    fits = record { small = f.small; inside = omega (arith, f.inside, same_length, s.size, s.inside, size) };
    whole = omega (arith, same_length, s.size);
  }

  again_with : (c : ℕ) → resumed_above c b.own ≡ st → recover_of store st.length c ≡ recovered st 0 0
  again_with c same =
      let g = recovered_good in
      let inside : st.length ≤ w = omega (arith, same_length, s.size, s.inside, size) in
      let there = length_log store st.length g.fits.inside in
      let none : excess_of st.length ≡ 0 = g.whole in
      let own : st.length ≡ s.left * page_size = same_length ∙ s.size in
      let front : take st.length store ≡ first_pages log s.left = rw (← own) (sym (take-take st.length w store inside)) in
      sym (recover_cut store st.length c (not_too_long store st.length g.fits) st.length (sym there) (omega (arith, g.whole)))
      ∙ (rw (none, front) (ap (above_stored c) s.again))
      ∙ ap (λ (x : State). recovered x 0 0) same

  -- with the ceiling that was stored
  pub recovered_again : recover_of store st.length stored ≡ recovered st 0 0
  recovered_again = again_with stored b.lifted

  -- and with the one that was answered
  pub recovered_again_above : recover_of store st.length st.ceiling ≡ recovered st 0 0
  recovered_again_above =
      let c : st.ceiling ≡ max b.own.next stored = ap (λ (x : State). x.ceiling) (sym b.lifted) in
      let same : max b.own.next st.ceiling ≡ max b.own.next stored = omega (arith, c) in
      again_with st.ceiling (rw same b.lifted)

  -- ---- THEOREM: no entry that starts later lies inside the one at which recovery ended

  pub recovered_apart : (st.length ≡ 0) ⊎ EndedAt log st
  recovered_apart = ⊎_elim
      (λ z. inl (omega (arith, same_length, s.size, z)))
      (λ h. inr (record { page = h.page; apart = h.apart; has = h.has ∙ sym same_last }))
      s.ended
