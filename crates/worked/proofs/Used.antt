-- 11.11: a history that meets what `used_once` asks; and for each of the three conditions the smallest history that meets the other two, and in which an id is used twice. Assumes nothing.
use Rattle.std.proofs.Common.{◌≡◌, ℕ, ◌^◌, ◌<◌, ◌⊎◌, List, [], ◌∷◌, get_or, take, replicate, sym, refl, ap, ◌∙◌, subst, inl, inr, ⊎_elim, arith, lit<, lit≤}
use Rattle.page.specs.Size.{pages_for, page_at}
use Rattle.page.specs.Bytes.{number_at, bytes_of}
use Rattle.page.specs.Mark.{mark_at}
use Rattle.page.specs.Entry.{length_at, id_at, entry_at}
use Rattle.page.specs.Data.{place_of, data_of, data_at}
use Rattle.page.specs.Write.{filled, first_page, later_page, later_pages, entry_pages}
use Rattle.catalog.specs.Bounds.{too_long, bad_state}
use Rattle.catalog.specs.Output.{hand_over}
use Rattle.catalog.specs.State.{fresh, state_of, taken, take_of}
use Rattle.catalog.specs.Raise.{bad_step, raise_of}
use Rattle.catalog.specs.Recovery.{at_whole, at_start, walk_back, recover_log, recover_of}
use Rattle.catalog.specs.Check.{check_end, check_from, check_of}
use Rattle.catalog.specs.Guess.{least_from, least_shift, offset_of}
use Rattle.catalog.specs.Lookup.{found, absent, compared, saying_at, turned, walk, search, search_of, find_of, hand_found, lookup_of}
use Rattle.pushing.specs.Push.{entry_data, some, bad_end, bad_batch, large_data, some_large, wrote, turn, entries_from, push_of}
use Rattle.demands.specs.History.{World, world, Call, push, take_id, raise, find, lookup, scan, step_on, recover, lend, cut_log}
use Rattle.demands.specs.History.{Answer, pushed, handed_out, raised_to, located, looked_up, scan_began, stepped, restored, lent, reopened, answer, step, run, Said, said, Begun}
use Rattle.demands.specs.Used.{HandsOut, Pushes, Finds, read_by_lookup, Some, InTurn, HandedBefore, PushedOnce, StoredAbove, HandedOnce, UsedOnce}
use Rattle.demands.proofs.Check.Passing.{checked_sound}
use Rattle.demands.proofs.Recovery.Resuming.{empty_is_fresh}
use Rattle.demands.proofs.History.Used.{last_answered_enough, used_once, dropped_never_found}
use Rattle.worked.proofs.Witnessed.{word}

-- ---- what calls that push one id, or none, are asked

-- the call is no push
abbrev Plain : Call → Type 0
Plain (push ids ends bytes words) = ⊥
Plain take_id = Unit {0}
Plain (raise by) = Unit {0}
Plain (find id) = Unit {0}
Plain (lookup id out) = Unit {0}
Plain (scan range) = Unit {0}
Plain (step_on range cursor out) = Unit {0}
Plain (recover stored) = Unit {0}
Plain (lend rest) = Unit {0}
Plain (cut_log n stored rest) = Unit {0}

plain_pushes_none : {x : Said} → Plain x.call → (id : ℕ) (d : List ℕ) → Pushes id d x → ⊥
plain_pushes_none plain id d p = subst Plain p.called plain

-- nor did such a call, nor the calls before it
nor : (id : ℕ) (d : List ℕ) {x : Said} {rest : Type 0} → Plain x.call → (rest → ⊥) → Pushes id d x ⊎ rest → ⊥
nor id d plain none = ⊎_elim (plain_pushes_none plain id d) none

plain_handed : {before : List Said} {x : Said} → Plain x.call → HandedBefore before x
plain_handed plain = record { handed = λ id d p. absurd (plain_pushes_none plain id d p) }

plain_once : {before : List Said} {x : Said} → Plain x.call → PushedOnce before x
plain_once plain = record { once = λ id d e p q. plain_pushes_none plain id d p }

ids_of : Call → List ℕ
ids_of (push ids ends bytes words) = ids
ids_of take_id = []
ids_of (raise by) = []
ids_of (find id) = []
ids_of (lookup id out) = []
ids_of (scan range) = []
ids_of (step_on range cursor out) = []
ids_of (recover stored) = []
ids_of (lend rest) = []
ids_of (cut_log n stored rest) = []

written_of : Answer → ℕ
written_of (pushed r) = r.answer.written
written_of (handed_out r) = 0
written_of (raised_to r) = 0
written_of (located r) = 0
written_of (looked_up r) = 0
written_of (scan_began r) = 0
written_of (stepped r) = 0
written_of (restored r) = 0
written_of (lent store) = 0
written_of (reopened store r) = 0

-- a push that counts one entry, with that id
record One (i : ℕ) (x : Said) : Type 0 where
  pub ids : ids_of x.call ≡ i ∷ []
  pub written : written_of x.reply ≡ 1

one_id : {i : ℕ} {x : Said} → One i x → (id : ℕ) (d : List ℕ) → Pushes id d x → id ≡ i
unfolding ids_of written_of
one_id {i} {x} o id d p =
    let w : p.done.answer.written ≡ 1 = sym (ap written_of p.is) ∙ o.written in
    let z : p.place ≡ 0 = omega (arith, p.counted, w) in
    let l : p.ids ≡ i ∷ [] = sym (ap ids_of p.called) ∙ o.ids in
    sym p.id_is ∙ rw (l, z)

one_handed : {before : List Said} {x : Said} (i : ℕ) → One i x → Some (HandsOut i) before → HandedBefore before x
one_handed i o handed = record { handed = λ id d p. rw (one_id o id d p) handed }

one_once : {before : List Said} {x : Said} (i : ℕ) → One i x → ((e : List ℕ) → Some (Pushes i e) before → ⊥) → PushedOnce before x
one_once i o none = record { once = λ id d e p q. none e (rw (one_id o id d p) at q) }

-- of one call, and also of those after it
also : {A B : Type 0} → A → B → A × B
also a b = (a, b)

-- ---- a history with a dropped id, a restart and a cut

-- an empty log in a store of two pages
abbrev empty : World
empty = world (replicate 2048 0) fresh

pub empty_begins : Begun empty
unfolding too_long check_end check_from check_of walk_back recover_log recover_of
empty_begins = record { size = 0; stored = 1; excess = 0; dropped = 0; is = refl; sound = ((checked_sound (replicate 2048 0) 0).0 refl).sound }

-- an id with a byte
abbrev pushes : (i : ℕ) → i < 2 ^ 64 → ℕ → Call
pushes i l b = push (i ∷ []) (1 ∷ []) (b ∷ []) (word i l)

-- 1, 2 and 3 are handed out; 1 is pushed, 2 dropped; the log is recovered with the ceiling answered last, 4; 3 is pushed, and cut in its page;
-- then the next id is 5, which is new
abbrev calls : List Call
calls =
    raise 3 ∷ take_id ∷ take_id ∷ take_id ∷ pushes 1 (lit< tt) 7 ∷ recover 4 ∷ pushes 3 (lit< tt) 8 ∷ raise 1 ∷ cut_log 1500 5 [] ∷ raise 1 ∷ take_id
    ∷ find 1 ∷ find 2 ∷ find 3 ∷ []

-- what is asked is met
pub calls_handed : InTurn HandedBefore [] (said empty calls)
unfolding pages_for page_at number_at bytes_of mark_at length_at id_at entry_at filled first_page later_page later_pages entry_pages too_long bad_state take_of bad_step
    raise_of entry_data some bad_end bad_batch large_data some_large wrote turn entries_from push_of at_whole at_start walk_back recover_log recover_of answer step
    said ids_of written_of
calls_handed =
    also (plain_handed tt) (
    also (plain_handed tt) (
    also (plain_handed tt) (
    also (plain_handed tt) (
    also (one_handed 1 (record { ids = refl; written = refl }) (inr (inr (inl (record { state = _; is = refl }))))) (
    also (plain_handed tt) (
    also (one_handed 3 (record { ids = refl; written = refl }) (inr (inr (inl (record { state = _; is = refl }))))) (
    also (plain_handed tt) (
    also (plain_handed tt) (
    also (plain_handed tt) (
    also (plain_handed tt) (
    also (plain_handed tt) (
    also (plain_handed tt) (
    also (plain_handed tt) (tt))))))))))))))

pub calls_once : InTurn PushedOnce [] (said empty calls)
unfolding pages_for page_at number_at bytes_of mark_at length_at id_at entry_at filled first_page later_page later_pages entry_pages too_long bad_state take_of bad_step
    raise_of entry_data some bad_end bad_batch large_data some_large wrote turn entries_from push_of at_whole at_start walk_back recover_log recover_of answer step
    said ids_of written_of
calls_once =
    also (plain_once tt) (
    also (plain_once tt) (
    also (plain_once tt) (
    also (plain_once tt) (
    also (one_once 1 (record { ids = refl; written = refl }) (λ e. nor 1 e tt (nor 1 e tt (nor 1 e tt (nor 1 e tt (λ none. none)))))) (
    also (plain_once tt) (
    also (one_once 3 (record { ids = refl; written = refl })
    (λ e. nor 3 e tt (⊎_elim (λ q. let z : ◌≡◌ {A = ℕ} 3 1 = one_id (record { ids = refl; written = refl }) 3 e q in omega arith) (nor 3 e tt (nor 3 e tt (nor 3 e tt (nor 3 e tt (λ none. none)))))))) (
    also (plain_once tt) (
    also (plain_once tt) (
    also (plain_once tt) (
    also (plain_once tt) (
    also (plain_once tt) (
    also (plain_once tt) (
    also (plain_once tt) (tt))))))))))))))

pub calls_stored : InTurn (StoredAbove fresh) [] (said empty calls)
unfolding pages_for page_at number_at bytes_of mark_at length_at id_at entry_at filled first_page later_page later_pages entry_pages too_long bad_state take_of bad_step
    raise_of entry_data some bad_end bad_batch large_data some_large wrote turn entries_from push_of at_whole at_start walk_back recover_log recover_of answer step
    said
calls_stored = last_answered_enough empty empty_begins calls (
    also tt (
    also tt (
    also tt (
    also tt (
    also tt (
    also (lit≤ tt) (
    also tt (
    also tt (
    also (lit≤ tt) (
    also tt (
    also tt (
    also tt (
    also tt (
    also tt (tt)))))))))))))))

pub calls_used_once : InTurn UsedOnce [] (said empty calls)
calls_used_once = used_once empty empty_begins calls calls_handed calls_once calls_stored

-- the next id after the restart and the cut
pub five_is_next : answer (run empty (take 10 calls)) take_id ≡ handed_out (taken 5 (state_of 1024 1 6 6))
unfolding pages_for page_at number_at bytes_of mark_at length_at id_at entry_at filled first_page later_page later_pages entry_pages too_long bad_state take_of bad_step
    raise_of entry_data some bad_end bad_batch large_data some_large wrote turn entries_from push_of at_whole at_start walk_back recover_log recover_of answer step run
five_is_next = refl

-- 2, which was dropped, and 3, which the cut took away, are absent; 1 is found
pub one_alone_found : (answer (run empty (take 11 calls)) (find 1) ≡ located (found 0 1))
    × ((answer (run empty (take 11 calls)) (find 2) ≡ located (absent 1024)) × (answer (run empty (take 11 calls)) (find 3) ≡ located (absent 1024)))
unfolding pages_for page_at number_at bytes_of mark_at length_at id_at entry_at filled first_page later_page later_pages entry_pages too_long bad_state take_of bad_step
    raise_of entry_data some bad_end bad_batch large_data some_large wrote turn entries_from push_of at_whole at_start walk_back recover_log recover_of least_from
    least_shift offset_of compared saying_at turned walk search search_of find_of answer step run
one_alone_found = (refl, (refl, refl))

pub two_never_found : (len : ℕ) → Some (Finds 2 len) (said empty calls) → ⊥
unfolding pages_for page_at number_at bytes_of mark_at length_at id_at entry_at filled first_page later_page later_pages entry_pages too_long bad_state take_of bad_step
    raise_of entry_data some bad_end bad_batch large_data some_large wrote turn entries_from push_of at_whole at_start walk_back recover_log recover_of answer step
    said ids_of written_of
two_never_found len = dropped_never_found empty empty_begins calls calls_stored 2 len
    (inr (inr (inl (record { state = _; is = refl }))))
    (λ d. nor 2 d tt (nor 2 d tt (nor 2 d tt (nor 2 d tt (⊎_elim
    (λ q. let z : ◌≡◌ {A = ℕ} 2 1 = one_id (record { ids = refl; written = refl }) 2 d q in omega arith)
    (nor 2 d tt (⊎_elim
    (λ q. let z : ◌≡◌ {A = ℕ} 2 3 = one_id (record { ids = refl; written = refl }) 2 d q in omega arith)
    (nor 2 d tt (nor 2 d tt (nor 2 d tt (nor 2 d tt (nor 2 d tt (nor 2 d tt (nor 2 d tt (λ none. none)))))))))))))))

-- ---- what goes wrong where one condition is not met, and the two others are

-- a recovery is given an older ceiling: an id is handed out twice
pub record NeedsStored (w : World) (calls : List Call) : Type 0 where
  pub begun : Begun w
  pub handed : InTurn HandedBefore [] (said w calls)
  pub once : InTurn PushedOnce [] (said w calls)
  pub twice : InTurn HandedOnce [] (said w calls) → ⊥

-- an id is pushed that was not handed out
pub record NeedsHanded (w : World) (calls : List Call) : Type 0 where
  pub begun : Begun w
  pub once : InTurn PushedOnce [] (said w calls)
  pub stored : InTurn (StoredAbove w.state) [] (said w calls)
  pub used : InTurn UsedOnce [] (said w calls) → ⊥

-- one is pushed twice
pub record NeedsOnce (w : World) (calls : List Call) : Type 0 where
  pub begun : Begun w
  pub handed : InTurn HandedBefore [] (said w calls)
  pub stored : InTurn (StoredAbove w.state) [] (said w calls)
  pub used : InTurn UsedOnce [] (said w calls) → ⊥

-- ---- 1 is handed out, the log recovered with the ceiling from before it was raised, and 1 is handed out again

abbrev nothing : World
nothing = world [] fresh

abbrev older_ceiling : List Call
older_ceiling = raise 1 ∷ take_id ∷ recover 1 ∷ raise 1 ∷ take_id ∷ []

pub older_hands_again : NeedsStored nothing older_ceiling
unfolding too_long check_end check_from check_of take_of bad_step raise_of walk_back recover_log recover_of answer step said
older_hands_again = record {
  begun = record {
    size = 0;
    stored = 1;
    excess = 0;
    dropped = 0;
    is = (empty_is_fresh [] 0 1 (record { small = lit≤ tt; inside = lit≤ tt }) refl).1 (lit≤ tt);
    sound = ((checked_sound [] 0).0 refl).sound;
  };
  handed = also (plain_handed tt) (also (plain_handed tt) (also (plain_handed tt) (also (plain_handed tt) (also (plain_handed tt) tt))));
  once = also (plain_once tt) (also (plain_once tt) (also (plain_once tt) (also (plain_once tt) (also (plain_once tt) tt))));
  twice = λ u. u.1.1.1.1.0.new 1 (record { state = _; is = refl }) (inr (inr (inl (record { state = _; is = refl }))));
}

-- ---- 1 is pushed, and then handed out; so whoever takes it finds it, though nobody pushed it since

abbrev one_page : World
one_page = world (replicate 1024 0) fresh

one_page_begins : Begun one_page
unfolding too_long check_end check_from check_of walk_back recover_log recover_of
one_page_begins = record { size = 0; stored = 1; excess = 0; dropped = 0; is = refl; sound = ((checked_sound (replicate 1024 0) 0).0 refl).sound }

abbrev not_handed : List Call
not_handed = pushes 1 (lit< tt) 7 ∷ raise 1 ∷ take_id ∷ []

pub unhanded_used : NeedsHanded one_page not_handed
unfolding pages_for page_at bytes_of filled first_page later_page later_pages entry_pages too_long bad_state take_of bad_step raise_of entry_data some bad_end bad_batch
    large_data some_large wrote turn entries_from push_of answer step said ids_of written_of
unhanded_used = record {
  begun = one_page_begins;
  once = also (one_once 1 (record { ids = refl; written = refl }) (λ e none. none)) (also (plain_once tt) (also (plain_once tt) tt));
  stored = also tt (also tt (also tt tt));
  used = λ u. u.1.1.0.unpushed 1 (7 ∷ []) (record { state = _; is = refl }) (inr (inl (record {
    ids = 1 ∷ [];
    ends = 1 ∷ [];
    bytes = 7 ∷ [];
    words = word 1 (lit< tt);
    called = refl;
    done = _;
    is = refl;
    place = 0;
    counted = lit< tt;
    id_is = refl;
    data_is = refl;
  })));
}

pub unhanded_found : (answer (run one_page (take 2 not_handed)) take_id ≡ handed_out (taken 1 (state_of 1024 1 2 2)))
    × (answer (run one_page not_handed) (find 1) ≡ located (found 0 1))
unfolding pages_for page_at number_at bytes_of mark_at length_at id_at entry_at filled first_page later_page later_pages entry_pages too_long bad_state take_of bad_step
    raise_of entry_data some bad_end bad_batch large_data some_large wrote turn entries_from push_of least_from least_shift offset_of compared saying_at turned walk
    search search_of find_of answer step run
unhanded_found = (refl, refl)

-- ---- 1 is handed out and pushed, a cut takes it away, and it is pushed with another byte and found with that

abbrev pushed_twice : List Call
pushed_twice = raise 1 ∷ take_id ∷ pushes 1 (lit< tt) 7 ∷ cut_log 0 2 (replicate 1024 0) ∷ pushes 1 (lit< tt) 8 ∷ lookup 1 (0 ∷ []) ∷ []

pub twice_differs : NeedsOnce one_page pushed_twice
unfolding pages_for page_at number_at bytes_of mark_at length_at id_at entry_at place_of data_of data_at filled first_page later_page later_pages entry_pages too_long
    bad_state take_of bad_step raise_of entry_data some bad_end bad_batch large_data some_large wrote turn entries_from push_of at_whole at_start walk_back recover_log
    recover_of least_from least_shift offset_of compared saying_at turned walk search search_of find_of hand_over hand_found lookup_of answer step said ids_of
    written_of
twice_differs = record {
  begun = one_page_begins;
  handed =
      also (plain_handed tt) (also (plain_handed tt) (also (one_handed 1 (record { ids = refl; written = refl }) (inl (record { state = _; is = refl }))) (also (plain_handed tt)
      (also (one_handed 1 (record { ids = refl; written = refl }) (inr (inr (inl (record { state = _; is = refl }))))) (also (plain_handed tt) tt)))));
  stored = also tt (also tt (also tt (also (lit≤ tt) (also tt (also tt tt)))));
  used = λ u.
      let same = u.1.1.1.1.1.0.same 1 (8 ∷ []) (7 ∷ []) (read_by_lookup (0 ∷ []) (8 ∷ []) 0 1 refl refl refl) (inr (inr (inr (inl (record { state = _; is = refl })))))
      (inr (inr (inl (record {
        ids = 1 ∷ [];
        ends = 1 ∷ [];
        bytes = 7 ∷ [];
        words = word 1 (lit< tt);
        called = refl;
        done = _;
        is = refl;
        place = 0;
        counted = lit< tt;
        id_is = refl;
        data_is = refl;
      })))) in
      let z : ◌≡◌ {A = ℕ} 8 7 = ap (λ (l : List ℕ). get_or l 0 0) same in omega arith;
}
