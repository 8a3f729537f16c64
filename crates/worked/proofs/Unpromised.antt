-- Examples of Rules 12, "What is not promised", and that what the theorems ask for is needed. Assumes nothing.
use Rattle.std.proofs.Common.{◌≡◌, ℕ, List, [], ◌∷◌, ◌++◌, get_or, take, drop, replicate, refl, arith, lit<, lit≤}
use Rattle.page.specs.Size.{pages_for, page_at}
use Rattle.page.specs.Bytes.{number_at, bytes_of}
use Rattle.page.specs.Mark.{mark_at}
use Rattle.page.specs.Entry.{length_at, id_at, entry_at}
use Rattle.page.specs.Write.{filled, first_page, later_page, later_pages, entry_pages}
use Rattle.catalog.specs.Bounds.{too_long, bad_state}
use Rattle.catalog.specs.State.{fresh, state_of, take_of}
use Rattle.catalog.specs.Raise.{bad_step, raise_of}
use Rattle.catalog.specs.Recovery.{recovered, at_whole, at_start, walk_back, recover_log, recover_of}
use Rattle.catalog.specs.Check.{refused, later_marks, check_start, check_page, check_end, check_from, check_of}
use Rattle.catalog.specs.Guess.{least_from, least_shift, offset_of}
use Rattle.catalog.specs.Lookup.{absent, compared, saying_at, turned, walk, search, search_of, find_of}
use Rattle.pushing.specs.Push.{entry_data, some, bad_end, bad_batch, large_data, some_large, wrote, turn, entries_from, push_of}
use Rattle.demands.specs.Sound.{SoundStore}
use Rattle.demands.specs.Push.{batch_pages, Push, pages_of}
use Rattle.demands.specs.History.{World, world, log_of, take_id, raise, cut_log, answer, step, run, Settled, SettledByStored}
use Rattle.demands.proofs.Last.{last_stored_greatest}
use Rattle.demands.proofs.Check.Passing.{checked_sound}
use Rattle.demands.proofs.History.Demands.{last_is_stored}
use Rattle.worked.proofs.Witnessed.{store, store_is_sound, begins, begins_there, three_settled, pushed_five, other}

-- ---- 12.1: what passes the sound check

-- another data byte
pub flipped_is_sound : SoundStore other 4096
unfolding pages_for page_at number_at bytes_of mark_at length_at id_at entry_at filled first_page later_page later_pages entry_pages too_long later_marks check_start check_page check_end check_from check_of
flipped_is_sound = (checked_sound other 4096).0 refl

-- the mark of the last entry's start, now 0
abbrev unmarked : List ℕ
unmarked = take 2048 store ++ (0 ∷ drop 2049 store)

pub unmarked_is_sound : SoundStore unmarked 4096
unfolding pages_for page_at number_at bytes_of mark_at length_at id_at entry_at filled first_page later_page later_pages entry_pages too_long later_marks check_start check_page check_end check_from check_of
unmarked_is_sound = (checked_sound unmarked 4096).0 refl

-- and its id 3 is handed out again, after 2, if no ceiling is stored
pub unmarked_is_lost : recover_of unmarked 4096 0 ≡ recovered (state_of 4096 1 2 2) 0 0
unfolding pages_for page_at number_at bytes_of mark_at length_at id_at entry_at filled first_page later_page later_pages entry_pages too_long at_whole at_start walk_back recover_log recover_of
unmarked_is_lost = refl

-- ---- 12.3: faults that are not told

-- a bad mark on the idle page, which no recovery reads
pub fault_unseen : recover_of (take 1024 store ++ (7 ∷ drop 1025 store)) 4096 0 ≡ recover_of store 4096 0
unfolding pages_for page_at number_at bytes_of mark_at length_at id_at entry_at filled first_page later_page later_pages entry_pages too_long at_whole at_start walk_back recover_log recover_of
fault_unseen = refl

-- in a log that is not sound, with 5 before 3, a stored id is missed: 11.5 asks for a sound log
pub stored_and_missed : find_of (entry_pages 5 [] ++ entry_pages 3 []) (state_of 2048 5 6 6) 5 ≡ absent 2048
unfolding pages_for page_at number_at bytes_of mark_at length_at id_at entry_at filled first_page later_page later_pages entry_pages too_long bad_state least_from
    least_shift offset_of compared saying_at turned walk search search_of find_of
stored_and_missed = refl

-- ---- 12.6: filling that another program wrote

-- a byte after the payload of entry 1
abbrev stale : List ℕ
stale = take 20 store ++ (5 ∷ drop 21 store)

pub stale_is_sound : SoundStore stale 4096
unfolding pages_for page_at number_at bytes_of mark_at length_at id_at entry_at filled first_page later_page later_pages entry_pages too_long later_marks check_start check_page check_end check_from check_of
stale_is_sound = (checked_sound stale 4096).0 refl

pub stale_stays : get_or (push_of stale begins.state (5 ∷ []) (1 ∷ []) (8 ∷ [])).store 20 0 ≡ 5
unfolding pages_for page_at bytes_of filled first_page later_page later_pages entry_pages too_long bad_state entry_data some bad_end bad_batch large_data some_large wrote turn entries_from push_of
stale_stays = refl

-- ---- 12.8: damage to the last entry that looks like a cut

-- a bit of its length, so that it goes past the log's end
abbrev longer : List ℕ
longer = take 2050 store ++ (7 ∷ drop 2051 store)

-- the mark of its later page, which then starts an entry that goes past the end
abbrev marked : List ℕ
marked = take 3072 store ++ (1 ∷ drop 3073 store)

pub damage_dropped : (recover_of longer 4096 0 ≡ recovered (state_of 2048 1 2 2) 0 2) × (recover_of marked 4096 0 ≡ recovered (state_of 2048 1 2 2) 0 2)
unfolding pages_for page_at number_at bytes_of mark_at length_at id_at entry_at filled first_page later_page later_pages entry_pages too_long at_whole at_start walk_back recover_log recover_of
damage_dropped = (refl, refl)

pub damage_told : (check_of longer 4096 ≡ refused 7 2) × (check_of marked 4096 ≡ refused 14 3)
unfolding pages_for page_at number_at bytes_of mark_at length_at id_at entry_at filled first_page later_page later_pages entry_pages too_long later_marks check_start check_page check_end check_from check_of
damage_told = (refl, refl)

-- ---- 12.7: bytes before the cut that are not the log's

-- a page of an earlier log, id 1 again, where the next entry was to be
abbrev older : List ℕ
older = take 4096 store ++ entry_pages 1 []

pub older_found : (recover_of older 5120 0 ≡ recovered (state_of 5120 1 2 2) 0 0) × (check_of older 5120 ≡ refused 15 4)
unfolding pages_for page_at number_at bytes_of mark_at length_at id_at entry_at filled first_page later_page later_pages entry_pages too_long at_whole at_start
    walk_back recover_log recover_of later_marks check_start check_page check_end check_from check_of
older_found = (refl, refl)

-- ---- 6.7: what is read goes further down than the last start that is whole in the log: 2, on pages 1 and 2, is cut by 3, which starts on page 2 and is cut

abbrev overlapped : ℕ → List ℕ
overlapped id = entry_pages id [] ++ (take 1024 (entry_pages 2 (replicate 1013 9)) ++ take 1024 (entry_pages 3 (replicate 1013 9)))

pub overlapped_differs : (recover_of (overlapped 1) 3072 0 ≡ recovered (state_of 1024 1 2 2) 0 2) × (recover_of (overlapped 9) 3072 0 ≡ recovered (state_of 1024 9 10 10) 0 2)
unfolding pages_for page_at number_at bytes_of mark_at length_at id_at entry_at filled first_page later_page later_pages entry_pages too_long at_whole at_start walk_back recover_log recover_of
overlapped_differs = (refl, refl)

-- nor is it enough that two logs agree from a start on whose entry is cut

abbrev ends_cut : ℕ → List ℕ
ends_cut id = entry_pages id [] ++ take 1024 (entry_pages 2 (replicate 1013 9))

pub cut_differs : (recover_of (ends_cut 1) 2048 0 ≡ recovered (state_of 1024 1 2 2) 0 1) × (recover_of (ends_cut 9) 2048 0 ≡ recovered (state_of 1024 9 10 10) 0 1)
unfolding pages_for page_at number_at bytes_of mark_at length_at id_at entry_at filled first_page later_page later_pages entry_pages too_long at_whole at_start walk_back recover_log recover_of
cut_differs = (refl, refl)

-- ---- 11.7 asks of a push that is cut that last written is the last stored id: 10, pushed from a made-up 9 and cut where it begins, leaves 3

pub made_up_torn : ((push_of store (state_of 4096 9 10 10) (10 ∷ []) (0 ∷ []) []).answer.written ≡ 1)
    × (recover_of (push_of store (state_of 4096 9 10 10) (10 ∷ []) (0 ∷ []) []).store 4096 0 ≡ recovered (state_of 4096 3 4 4) 0 0)
unfolding pages_for page_at number_at bytes_of mark_at length_at id_at entry_at filled first_page later_page later_pages entry_pages too_long bad_state entry_data
    some bad_end bad_batch large_data some_large wrote turn entries_from push_of at_whole at_start walk_back recover_log recover_of
made_up_torn = (refl, refl)

-- ---- 11.9 and 11.10 ask that no cut falls below: 3, settled and found, is lost by a cut in its last page, and 5 by one in its own, though both are below next again

abbrev cut_three : World
cut_three = run begins (cut_log 4000 0 [] ∷ raise 2 ∷ take_id ∷ take_id ∷ [])

pub three_was_settled : Settled begins 3
three_was_settled = record { some = lit≤ tt; most = lit≤ tt; below = lit< tt }

pub three_is_lost : (cut_three.state ≡ state_of 2048 1 4 4) × (find_of cut_three.store cut_three.state 3 ≡ absent 2048)
unfolding pages_for page_at number_at bytes_of mark_at length_at id_at entry_at filled first_page later_page later_pages entry_pages too_long bad_state take_of bad_step raise_of
    least_from least_shift offset_of compared saying_at turned walk search search_of find_of at_whole at_start walk_back recover_log recover_of answer step run
three_is_lost = (refl, refl)

abbrev cut_five : World
cut_five = run pushed_five (cut_log 5000 0 [] ∷ raise 2 ∷ take_id ∷ take_id ∷ [])

pub five_is_lost : (cut_five.state ≡ state_of 4096 3 6 6) × (find_of cut_five.store cut_five.state 5 ≡ absent 4096)
unfolding pages_for page_at number_at bytes_of mark_at length_at id_at entry_at filled first_page later_page later_pages entry_pages too_long bad_state take_of bad_step raise_of
    least_from least_shift offset_of compared saying_at turned walk search search_of find_of entry_data some bad_end bad_batch large_data some_large wrote turn
    entries_from push_of at_whole at_start walk_back recover_log recover_of answer step run
five_is_lost = (refl, refl)

-- ---- 11.3 asks that the entries are counted: of an id and data pushed twice, the second, which is refused, leaves 255s

abbrev twice : Push
twice = record { store = replicate 2048 255; state = fresh; ids = 1 ∷ 1 ∷ []; ends = 1 ∷ 2 ∷ []; bytes = 8 ∷ 8 ∷ [] }

pub only_the_first : (take 1 (pages_of twice 0) ≡ 1 ∷ []) × (take 1 (pages_of twice 1) ≡ 255 ∷ [])
unfolding pages_for page_at bytes_of filled first_page later_page later_pages entry_pages too_long bad_state entry_data some bad_end bad_batch large_data some_large wrote turn entries_from push_of batch_pages
only_the_first = (refl, refl)

-- ---- 11.7 asks for a last written at or above the last stored id: with one that was made up a push leaves a log that is not sound

pub made_up_last : check_of (push_of store (state_of 4096 0 4 4) (1 ∷ []) (0 ∷ []) []).store 5120 ≡ refused 15 4
unfolding pages_for page_at number_at bytes_of mark_at length_at id_at entry_at filled first_page later_page later_pages entry_pages too_long bad_state entry_data
    some bad_end bad_batch large_data some_large wrote turn entries_from push_of later_marks check_start check_page check_end check_from check_of
made_up_last = refl

-- ---- 11.8 and 11.10 ask for a history: in states that were made up 5 is settled by last written and above the last stored id, and 3, which is stored, above last written

abbrev too_high : World
too_high = world store (state_of 4096 9 10 10)

abbrev too_low : World
too_low = world store (state_of 4096 0 4 4)

pub settled_not_stored : Settled too_high 5 × (SettledByStored too_high 5 → ⊥)
unfolding run
settled_not_stored = (
  record { some = lit≤ tt; most = lit≤ tt; below = lit< tt },
  λ h. omega (arith, h.most, last_stored_greatest (log_of begins) store_is_sound.sound 3 (last_is_stored begins begins_there []) h.page h.last.start),
)

pub stored_not_settled : SettledByStored too_low 3 × (Settled too_low 3 → ⊥)
stored_not_settled =
    let s = three_settled in
    (record { some = s.some; page = s.page; last = s.last; most = s.most; below = lit< tt }, λ h. omega (arith, h.most))
