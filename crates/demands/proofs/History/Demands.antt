-- Demand 3, and the last sentence of demand 2. Assumes nothing.
use Prim.Native.Nat.{ℕ, suc, ◌*◌, ◌/◌, ◌≤◌, ◌<◌}
use mathlib.Core.Path.{◌≡◌, refl, sym, ap, ◌∙◌, subst}
use mathlib.Core.Logic.{◌↔◌, ⊎_elim}
use mathlib.Core.List.Memᴰ
use mathlib.Core.List.{List, [], ◌∷◌, ◌++◌, Memᴰ}
use native.Mathlib.Omega.{arith}
use lib.ListN.{length, get_or, take}
use Rattle.page.specs.Size.{page_size}
use Rattle.page.specs.Entry.{data_length_at}
use Rattle.catalog.specs.Bounds.{Fits, Good}
use Rattle.pushing.specs.Push.{entry_data}
use Rattle.catalog.specs.State.{top_id}
use Rattle.catalog.specs.Recovery.{refused, recover_of}
use Rattle.catalog.specs.Lookup.{find_of}
use Rattle.demands.specs.Sound.{Sound, LastStored, nothing_stored, last_entry}
use Rattle.demands.specs.Push.{outcome, Counted, ends_at, log_with, Holds}
use Rattle.demands.specs.Recovery.{Torn}
use Rattle.demands.specs.Lookup.{Standing, present, standing, RightStanding}
use Rattle.demands.specs.History.{World, log_of, Words, Call, push, pushing, kept_of, step, answer, run, Said, said, AllSpare, Begun, Settled, SettledByStored, Answer, Gives, Answers, Keeps, KeepsFull, KeepsFirst, ReadsBack}
use Rattle.demands.proofs.Lookup.Right.{find_right, find_stored, right_unique}
use Rattle.demands.proofs.Sound.{sound_length}
use Rattle.demands.proofs.Last.{last_stored_greatest, last_stored_ready}
use Rattle.demands.proofs.Push.Appending.{holds_kept}
use Rattle.demands.proofs.Push.Places.{length_with, begins_with, sound_with, held_with}
use Rattle.demands.proofs.Recovery.Resuming.{no_excess, Resumed, recovered_resumes}
use Rattle.demands.proofs.Recovery.Again.{recovered_good, recovered_again}
use Rattle.demands.proofs.Recovery.Torn.{torn}
use Rattle.demands.proofs.History.Lasting.{right_grows, standing_data, data_grows, right_exact, right_answers}
use Rattle.demands.proofs.History.Living.{Grows, Lives, Over, over_none, over_rises}
use Rattle.demands.proofs.History.Cuts.{cut_full}
use Rattle.demands.proofs.History.Moving.{lives_step, lives_run, over_run, settled_run}

-- ---- where a history begins

module _ (w : World) (b : Begun w) where
  good : Good w.store w.state.length
  good = recovered_good w.store b.size b.stored w.state b.excess b.dropped b.is

  -- recovery of the log that is left gives the same state
  pub resumed : Resumed (log_of w) b.stored w.state
  resumed =
      let n = w.state.length in
      let e = no_excess w.store n good.whole in
      rw e at (recovered_resumes w.store n b.stored w.state 0 0 (rw e b.sound) (recovered_again w.store b.size b.stored w.state b.excess b.dropped b.is))

  pub begun_lives : Lives w
  begun_lives = record { good = record { fits = good.fits; sound = b.sound }; last = resumed.last }

  -- every id from 1 to last written is settled where a history begins: the demand is about something
  pub begun_settled : (id : ℕ) → 1 ≤ id → id ≤ w.state.last → Settled w id
  begun_settled id some most = record { some = some; most = most; below = omega (arith, resumed.next) }

-- ---- 11.8: through any calls last written is the id of the last entry stored

pub last_is_stored : (w : World) → Begun w → (calls : List Call) → LastStored (log_of (run w calls)) (run w calls).state.last
last_is_stored w b calls = (lives_run w (begun_lives w b) calls).last

-- so settled by the one is settled by the other
module _ (w : World) (i : Lives w) (id : ℕ) where
  to_stored : Settled w id → SettledByStored w id
  to_stored h = go i.last
    where
      go : LastStored (log_of w) w.state.last → SettledByStored w id
      go (nothing_stored none e) = absurd (omega (arith, h.some, h.most))
      go (last_entry p l e) = record { some = h.some; below = h.below; page = p; last = l; most = omega (arith, h.most, e) }

  from_stored : SettledByStored w id → Settled w id
  from_stored h = record { some = h.some; most = omega (arith, h.most, last_stored_greatest (log_of w) i.good.sound w.state.last i.last h.page h.last.start); below = h.below }

pub settled_by_stored : (w : World) → Begun w → (calls : List Call) (id : ℕ) → Settled (run w calls) id ↔ SettledByStored (run w calls) id
settled_by_stored w b calls id =
    let i = lives_run w (begun_lives w b) calls in
    (to_stored (run w calls) i id, from_stored (run w calls) i id)

-- ---- the first answer

-- where an id stands in a world
abbrev pub stands_in : World → ℕ → Standing
stands_in w id = standing (find_of w.store w.state id)

right_there : (w : World) → Lives w → (id : ℕ) → 1 ≤ id → id < w.state.next → RightStanding (log_of w) id (stands_in w id)
right_there w i id some below = find_right w.store w.state id i.good some below

-- what an id that is settled now gives in any world over this one, where it still is
module _ (w v : World) (i : Lives w) (o : Over (log_of w) v) (id : ℕ) (h : Settled w id) (k : Settled v id) where
  sound_grown : Sound (log_of w ++ o.grows.more)
  sound_grown = rw o.grows.is at o.lives.good.sound

  right_before : RightStanding (log_of w) id (stands_in w id)
  right_before = right_there w i id h.some h.below

  right_after : RightStanding (log_of v) id (stands_in w id)
  right_after =
      let l = to_stored w i id h in
      rw o.grows.is (right_grows (log_of w) o.grows.more sound_grown id l.page l.last.start l.most (stands_in w id) right_before)

  -- it stands where it stood
  pub same_answer : stands_in v id ≡ stands_in w id
  same_answer = right_unique (log_of v) o.lives.good.sound id (stands_in v id) (stands_in w id) (right_there v o.lives id k.some k.below) right_after

  same_data : standing_data (log_of v) (stands_in w id) ≡ standing_data (log_of w) (stands_in w id)
  same_data = rw o.grows.is (data_grows (log_of w) o.grows.more i.good.sound id (stands_in w id) right_before)

  kept_answer : Keeps v id (stands_in w id) (standing_data (log_of w) (stands_in w id))
  kept_answer = record {
    settled = k;
    answers = rw same_data at (right_answers v id (stands_in w id) same_answer right_after);
    exact = rw same_data at (right_exact (log_of v) id (stands_in w id) right_after);
  }

-- after any calls that spare this world's log
module _ (v : World) (i : Lives v) (id : ℕ) (h : Settled v id) where
  abbrev first : World → Type 0
  first w = Keeps w id (stands_in v id) (standing_data (log_of v) (stands_in v id))

  kept_from : (w : World) → Over (log_of v) w → Settled w id → (later : List Call) → AllSpare v.state.length later → first (run w later)
  kept_from w o k later spare = let r = settled_run v i id h w o k later spare in kept_answer v (run w later) i r.0 id h r.1

  pub kept_later : (later : List Call) → AllSpare v.state.length later → first (run v later)
  kept_later = kept_from v (over_none v i) h

  -- and after a cut then that recovery answers with 9, with a state that the caller makes up
  pub kept_full : (later : List Call) → AllSpare v.state.length later → (n stored : ℕ) (rest : List ℕ) → v.state.length ≤ n
      → recover_of (kept_of (run v later) n ++ rest) (length (kept_of (run v later) n)) stored ≡ refused 9 0 → id < top_id
      → KeepsFull (run v later) n rest id (stands_in v id) (standing_data (log_of v) (stands_in v id)) v.state.length
  kept_full later spare n stored rest l e below =
      let o = (settled_run v i id h v (over_none v i) h later spare).0 in
      let f = cut_full (log_of v) i.good.sound (run v later) o n (rw (sound_length i.good) l) stored rest e in
      record {
        left = f.left;
        is_left = f.is_left;
        keeps = kept_from _ f.over (record { some = h.some; most = omega (arith, h.most, over_rises v i f.over); below = below });
      }

-- ---- every call of a history

-- a call of the sequence was answered in the world that the calls before it left
pub record AnsweredIn (w : World) (calls : List Call) (x : Said) : Type 0 where
  pub earlier : List Call
  pub is : x.reply ≡ answer (run w earlier) x.call
  -- which spare what all of them spare
  pub spare : (bytes : ℕ) → AllSpare bytes calls → AllSpare bytes earlier

pub answered_in : (w : World) (calls : List Call) (x : Said) → Memᴰ x (said w calls) → AnsweredIn w calls x
unfolding run said
answered_in w [] x m = absurd (Memᴰ.not-nil m)
answered_in w (c ∷ cs) x m = ⊎_elim
    (λ e. record { earlier = []; is = ap (λ (y : Said). y.reply) e ∙ ap (λ (y : Said). answer w y.call) (sym e); spare = λ bytes s. tt })
    (λ i. let a = answered_in (step w c) cs x i in record { earlier = c ∷ a.earlier; is = a.is; spare = λ bytes s. (s.0, a.spare bytes s.1) })
    (Memᴰ.cases_cons m)

-- DEMAND 3, 11.10: through any sequence of calls, refused ones included, from a sound log and its recovered state, a settled id keeps its first answer: found exactly if it is stored
unfoldable pub settled : (w : World) → Begun w → (earlier : List Call) (id : ℕ) → Settled (run w earlier) id → KeepsFirst (run w earlier) id
settled w b earlier id h =
    let v = run w earlier in
    let i = lives_run w (begun_lives w b) earlier in
    let s = stands_in v id in
    let d = standing_data (log_of v) (stands_in v id) in
    record {
      stands = s;
      data_is = d;
      kept = kept_later v i id h;
      gave = λ later spare x m.
          let a = answered_in v later x m in
          subst (λ (r : Answer). Gives x.call r id s d) (sym a.is) ((kept_later v i id h a.earlier (a.spare v.state.length spare)).answers x.call);
      full = kept_full v i id h;
    }

-- DEMAND 3 in its own words: settled by the last entry stored, it stays so, and keeps its first answer
pub settled_in_words : (w : World) → Begun w → (earlier : List Call) (id : ℕ) → SettledByStored (run w earlier) id
    → KeepsFirst (run w earlier) id × ((later : List Call) → AllSpare (run w earlier).state.length later → SettledByStored (run (run w earlier) later) id)
settled_in_words w b earlier id s =
    let v = run w earlier in
    let i = lives_run w (begun_lives w b) earlier in
    let h = from_stored v i id s in
    (settled w b earlier id h, λ later spare. let r = settled_run v i id h v (over_none v i) h later spare in to_stored (run v later) r.0.lives id r.1)

-- ---- reading back

held_data : (log : List ℕ) (id : ℕ) (d : List ℕ) (h : Holds log id d) → standing_data log (present (h.page * page_size) (length d)) ≡ d
unfolding standing_data
held_data log id d h =
    let p : h.page * page_size / page_size ≡ h.page = omega arith in
    rw p h.same

-- an entry that the log holds is found, while its id is below next
held_answers : (w : World) → Lives w → (id : ℕ) (d : List ℕ) (h : Holds (log_of w) id d) → id < w.state.next → Answers w id (present (h.page * page_size) (length d)) d
held_answers w i id d h below =
    let some : 1 ≤ id = omega (arith, i.good.sound.from_one h.page h.start, h.has) in
    let n : data_length_at (log_of w) h.page ≡ length d = omega (arith, h.size) in
    let e : stands_in w id ≡ present (h.page * page_size) (length d) = find_stored w.store w.state id i.good some below h.page h.start h.has ∙ rw n in
    rw (held_data (log_of w) id d h) at (right_answers w id (present (h.page * page_size) (length d)) e (rw e at (right_there w i id some below)))

held_on : {a b : List ℕ} → Grows a b → Sound a → {id : ℕ} {d : List ℕ} (h : Holds a id d) → (k : Holds b id d) × (k.page ≡ h.page)
unfolding holds_kept
held_on {a} {b} g s {id} {d} h = rw g.is (holds_kept a g.more id d s h, refl)

-- 11.9: from a sound log and its recovered state, after any calls, each entry that a push counts as written, as long as no cut falls before the end of its pages
pub read_back : (w : World) → Begun w → (earlier : List Call) (ids ends bytes : List ℕ) (words : Words ids) (k : ℕ)
    → Counted (pushing (run w earlier) ids ends bytes) k
    → ReadsBack (step (run w earlier) (push ids ends bytes words)) (get_or ids k 0) (entry_data ends bytes k) (ends_at (pushing (run w earlier) ids ends bytes) k)
unfolding step answer
read_back w b earlier ids ends bytes words k c =
    let v = run w earlier in
    let i = lives_run w (begun_lives w b) earlier in
    let q = pushing v ids ends bytes in
    let ready = last_stored_ready v.store v.state i.good i.last in
    let u = step v (push ids ends bytes words) in
    let base = log_with q (suc k) in
    let sound = sound_with q words ready (suc k) c in
    let h = held_with q words ready k c in
    let front = begins_with q words ready (suc k) c in
    let there : Over base u = record { lives = lives_step v i (push ids ends bytes words); grows = record { more = front.rest; is = front.is } } in
    record {
      position = h.page * page_size;
      reads = λ later spare below.
          let o = over_run base sound u there later (rw (length_with q words ready (suc k)) spare) in
          let g = held_on o.grows sound h in
          rw g.1 at (held_answers (run u later) o.lives (get_or ids k 0) (entry_data ends bytes k) g.0 below);
    }

-- ---- a push in a history that is cut

-- 11.7: from a sound log and its recovered state, after any calls, a push of any batch that is cut at any byte
pub torn_in_history : (w : World) → Begun w → (earlier : List Call) (ids ends bytes : List ℕ) → Words ids → (n : ℕ)
    → (run w earlier).state.length ≤ n → n ≤ (outcome (pushing (run w earlier) ids ends bytes)).answer.state.length
    → (rest : List ℕ) → Fits (take n (outcome (pushing (run w earlier) ids ends bytes)).store ++ rest) n → (stored : ℕ)
    → Torn (pushing (run w earlier) ids ends bytes) n stored (take n (outcome (pushing (run w earlier) ids ends bytes)).store ++ rest)
    (recover_of (take n (outcome (pushing (run w earlier) ids ends bytes)).store ++ rest) n stored)
torn_in_history w b earlier ids ends bytes words =
    let i = lives_run w (begun_lives w b) earlier in
    torn (pushing (run w earlier) ids ends bytes) words i.good i.last
