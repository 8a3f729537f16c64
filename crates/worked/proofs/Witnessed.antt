-- Witnesses: what the theorems ask for can be had, and what they then say. Assumes nothing.
--   checked_sound                             the empty log, and a sound log of two entries with an idle page between: empty_is_sound, store_is_sound
--   lookup_right, scan_right, reached_inside  of that log: three_looked_up, all_scanned, first_reached
--   any_guess_right                           by guesses that are not the rule's: other_guesses, other_guesses_right
--   refused_lookup_keeps, refused_step_keeps  in a state that is refused 1: lookup_kept, step_kept
--   settled, begun_settled                    from its recovered state, 3 stays found and 2 absent: three_stays_found, two_stays_absent, three_was_given
--   settled_by_stored, settled_in_words       3 is settled by the last entry stored too, and stays so: three_settled, three_stays_settled
--   refused_keeps_id, tried_again             4 is refused for room, and written with less data, and in a longer store: four_refused, four_with_less, four_with_room;
--                                             7 is refused with 16,777,208 bytes, and written with fewer: seven_refused, seven_written, seven_there
--   last_is_stored, push_last_stored          4 is the last id stored, after it was refused and a longer store lent; and 5: four_is_last, five_is_last
--   push_right, push_whole                    5 is pushed: five_is_held, all_written
--   pages_alone, earlier_hidden               5 after 9, 9, 9 over 255s, by itself after that log, after 6: five_alike, nines_hidden
--   filling_written                           of its second page, over 255s: five_filled
--   read_back                                 two ids are taken, and the second, 5, is pushed: five_reads_back, five_stays_read
--   torn, cut_at_byte, uncut_same             4 and 5 are pushed and cut in 5; a log cut without a push; one that is not cut: both_torn, four_kept, cut_in_three, whole_uncut; five_is_cut
--   recovered_again, recovered_adds_up        of that cut: four_again
--   begun_lives                               of what is left of a torn log: torn_begins
--   settled, through cuts and after 9         then 3 is found as before: torn_goes_on, three_through_a_cut, three_after_nine
--   read_back, through a cut in the push      of 4, where 5 is cut: four_reads_back, four_below_next, four_stays_read
--   recover_right, recover_alike              a length with an excess; logs that differ before their last whole entry: excess_recovers, recovers_alike, torn_alike
--   complete_right, note_adds                 over words that are not zero: notes_right, three_added
--   data_one_part                             the data of an entry of one page: five_bytes
use Rattle.std.proofs.Common.{◌≡◌, ℕ, zero, suc, ◌+◌, ◌-◌, ◌*◌, ◌^◌, ◌<◌, ◌≤◌, true, ◌⊎◌, ◌↔◌, List, [], ◌∷◌, ◌++◌, length, take, drop, replicate, refl, ap, inl, inr, ⊎_elim, arith, lit<, lit≤}
use mathlib.Core.List.Memᴰ
use lib.ListN.{length-replicate}
use Rattle.page.specs.Size.{pages_for, page_count, page_at}
use Rattle.page.specs.Bytes.{number_at, bytes_of}
use Rattle.page.specs.Mark.{mark_at}
use Rattle.page.specs.Entry.{length_at, id_at, entry_at}
use Rattle.page.specs.Data.{place_of, data_of, data_at}
use Rattle.page.specs.Write.{filled, first_page, later_page, later_pages, entry_pages}
use Rattle.catalog.specs.Round.{stop, again}
use Rattle.catalog.specs.Bounds.{too_long, bad_state, Fits, Good}
use Rattle.catalog.specs.State.{fresh, state_of, take_of}
use Rattle.catalog.specs.Raise.{bad_step, raise_of}
use Rattle.demands.specs.Sound.{Start, SoundStore, Last, LastStored, last_entry}
use Rattle.demands.specs.Push.{batch_pages, log_after, Holds, Ready, Push, data_in, outcome, pages_of, AlikeFrom}
use Rattle.demands.specs.Recovery.{RightRecovery, RightCut, Torn, Apart, strict_at, strict_back, strict_of}
use Rattle.demands.specs.Lookup.{present, missing, RightStanding, Room, RightLookup, AnyGuess, stops, narrows}
use Rattle.demands.specs.Scan.{Enough, Scans}
use Rattle.catalog.specs.Guess.{least_from, least_shift, offset_of}
use Rattle.catalog.specs.Lookup.{found, round_from, window, all_pages, compared, saying_at, turned, walk, search, search_of, find_of, hand_found, lookup_of}
use Rattle.catalog.specs.Check.{later_marks, check_start, check_page, check_end, check_from, check_of}
use Rattle.catalog.specs.Recovery.{recovered, refused as unrecovered, whole_pages, at_whole, at_start, walk_back, recover_log, recover_of}
use Rattle.pushing.specs.Push.{none, refused, point, bytes_for, Done, done, entry_data, some, bad_end, bad_batch, large_data, some_large, wrote, turn, entries_from, push_of}
use Rattle.scanning.specs.Range.{holds_of}
use Rattle.scanning.specs.Scan.{scan_of}
use Rattle.scanning.specs.Step.{step_start, step_page, forward, forward_from, step_of}
use Rattle.catalog.specs.declared.state.State.{State}
use Rattle.scanning.specs.declared.Range.{Range}
use Rattle.std.specs.declared.ops.Bound.TheVariants.{Unbounded}
use Rattle.demands.specs.History.{World, world, log_of, Words, Call, push, take_id, raise, find, lookup, lend, cut_log}
use Rattle.demands.specs.History.{another_store, answer, step, run, said, AllSpare, Begun, Settled, SettledByStored, LooksUp, Gives, Answers, KeepsFull, ReadsBack}
use Rattle.page.proofs.Runs.{data_one_part}
use Rattle.demands.proofs.Check.Passing.{checked_sound}
use Rattle.demands.proofs.Push.Batch.{push_right, push_last_stored, push_whole}
use Rattle.demands.proofs.Last.{last_stored_ready}
use Rattle.demands.proofs.Push.Retrying.{one_too_large, tried_again}
use Rattle.demands.proofs.Push.Alone.{pages_alone, earlier_hidden, filling_written}
use Rattle.demands.proofs.Recovery.Cutting.{cut_at_byte}
use Rattle.demands.proofs.Recovery.Resuming.{recover_right}
use Rattle.demands.proofs.Recovery.Reading.{recover_alike, sound_apart}
use Rattle.demands.proofs.Recovery.Uncut.{uncut_same}
use Rattle.demands.proofs.Recovery.Again.{recovered_adds_up, recovered_again}
use Rattle.demands.proofs.Recovery.Torn.{torn}
use Rattle.demands.proofs.History.Lasting.{standing_data}
use Rattle.demands.proofs.Lookup.AnyGuess.{any_guess_right}
use Rattle.demands.proofs.Lookup.Right.{lookup_right}
use Rattle.demands.proofs.Lookup.Refusing.{refused_lookup_keeps}
use Rattle.demands.proofs.Scan.Right.{scan_right}
use Rattle.demands.proofs.Scan.Inside.{reached_inside}
use Rattle.demands.proofs.Scan.Refusing.{refused_step_keeps}
use Rattle.sequence.specs.Window.{only, shifted}
use Rattle.sequence.specs.Sequence.{new_of, rounds, note_of}
use Rattle.sequence.specs.Known.{Known}
use Rattle.sequence.specs.History.{begun, RightSequence, run as run-notes}
use Rattle.sequence.proofs.Adds.{note_adds}
use Rattle.sequence.proofs.Complete.{complete_right}
use Rattle.demands.proofs.History.Demands.{begun_lives, begun_settled, last_is_stored, settled_by_stored, settled, settled_in_words, read_back}
use Rattle.worked.proofs.Listed.{nine_page}

-- ---- a sound log: id 1 with a byte, an idle page, id 3 on two pages

abbrev one_byte : List ℕ
one_byte = 7 ∷ []

abbrev two_pages : List ℕ
two_pages = replicate 1013 9

-- and two pages of room
abbrev pub store : List ℕ
store = entry_pages 1 one_byte ++ (replicate 1024 0 ++ (entry_pages 3 two_pages ++ replicate 2048 0))

pub empty_is_sound : SoundStore [] 0
unfolding too_long check_end check_from check_of
empty_is_sound = (checked_sound [] 0).0 refl

pub store_is_sound : SoundStore store 4096
unfolding pages_for page_at number_at bytes_of mark_at length_at id_at entry_at filled first_page later_page later_pages entry_pages too_long later_marks check_start check_page check_end check_from check_of
store_is_sound = (checked_sound store 4096).0 refl

-- ---- its recovered state

abbrev pub begins : World
begins = world store (state_of 4096 3 4 4)

pub begins_there : Begun begins
unfolding pages_for page_at number_at bytes_of mark_at length_at id_at entry_at filled first_page later_page later_pages entry_pages too_long at_whole at_start walk_back recover_log recover_of
begins_there = record { size = 4096; stored = 0; excess = 0; dropped = 0; is = refl; sound = store_is_sound.sound }

starts_there : (p : ℕ) → Start (log_of begins) p → (p ≡ 0) ⊎ (p ≡ 2)
unfolding pages_for page_at bytes_of mark_at filled first_page later_page later_pages entry_pages
starts_there zero h = inl refl
starts_there (suc zero) h = absurd (let y : ◌≡◌ {A = ℕ} 0 1 = h.marked in omega arith)
starts_there (suc (suc zero)) h = inr refl
starts_there (suc (suc (suc zero))) h = absurd (let y : ◌≡◌ {A = ℕ} 0 1 = h.marked in omega arith)
starts_there (suc (suc (suc (suc p)))) h = absurd (let i : suc (suc (suc (suc p))) < 4 = h.inside in omega arith)

last_there : Last (log_of begins) 2
unfolding pages_for page_at bytes_of mark_at filled first_page later_page later_pages entry_pages
last_there = record {
  start = record { inside = lit< tt; marked = refl };
  none = λ q h. ⊎_elim (λ e. omega arith) (λ e. omega arith) (starts_there q h);
}

settled_there : (id : ℕ) → 1 ≤ id → id ≤ 3 → Settled begins id
settled_there = begun_settled begins begins_there

pub three_settled : SettledByStored begins 3
unfolding run
three_settled = (settled_by_stored begins begins_there [] 3).0 (settled_there 3 (lit≤ tt) (lit≤ tt))

pub three_stays_settled : (later : List Call) → AllSpare 4096 later → SettledByStored (run begins later) 3
unfolding run
three_stays_settled later spare = (settled_in_words begins begins_there [] 3 three_settled).1 later spare

-- ---- id 3 is found and id 2 is absent, through any calls that cut nothing below

pub three_stays_found : (later : List Call) → AllSpare 4096 later → (out : List ℕ) → 1013 ≤ length out → LooksUp (answer (run begins later) (lookup 3 out)) (present 2048 1013) (replicate 1013 9 ++ drop 1013 out)
unfolding pages_for page_at number_at bytes_of mark_at length_at id_at entry_at place_of data_of data_at filled first_page later_page later_pages entry_pages too_long
    bad_state least_from least_shift offset_of compared saying_at turned walk search search_of find_of standing_data settled run
three_stays_found later spare out enough = ((settled begins begins_there [] 3 (settled_there 3 (lit≤ tt) (lit≤ tt))).kept later spare).answers (lookup 3 out) refl enough

pub two_stays_absent : (later : List Call) → AllSpare 4096 later → (out : List ℕ) → LooksUp (answer (run begins later) (lookup 2 out)) (missing 2048) out
unfolding pages_for page_at number_at bytes_of mark_at length_at id_at entry_at filled first_page later_page later_pages entry_pages too_long bad_state least_from
    least_shift offset_of compared saying_at turned walk search search_of find_of standing_data settled run
two_stays_absent later spare out = ((settled begins begins_there [] 2 (settled_there 2 (lit≤ tt) (lit≤ tt))).kept later spare).answers (lookup 2 out) refl (omega arith)

-- a find that is among the later calls gave it
pub three_was_given : Gives (find 3) (answer begins (find 3)) 3 (present 2048 1013) (replicate 1013 9)
unfolding pages_for page_at number_at bytes_of mark_at length_at id_at entry_at place_of data_of data_at filled first_page later_page later_pages entry_pages too_long
    bad_state least_from least_shift offset_of compared saying_at turned walk search search_of find_of standing_data settled run said
three_was_given = (settled begins begins_there [] 3 (settled_there 3 (lit≤ tt) (lit≤ tt))).gave (find 3 ∷ []) (tt, tt) (record { call = find 3; reply = answer begins (find 3) }) (Memᴰ.head refl)

-- ---- a lookup and a scan of that log, each with enough output

three_fits : (out : List ℕ) → 1013 ≤ length out → Room (log_of begins) 3 out
unfolding pages_for page_at number_at bytes_of mark_at length_at id_at filled first_page later_page later_pages entry_pages
three_fits out enough position len stored = ⊎_elim
    (λ e. absurd (let y : ◌≡◌ {A = ℕ} 1 3 = rw e at stored.has in omega arith))
    (λ e. let y : len ≡ 1013 = rw e at stored.size in omega arith)
    (starts_there stored.page stored.start)

pub three_looked_up : (out : List ℕ) → 1013 ≤ length out → RightLookup (log_of begins) 3 out (lookup_of store begins.state 3 out)
three_looked_up out enough = lookup_right store begins.state 3 store_is_sound (lit≤ tt) (lit< tt) out (three_fits out enough)

abbrev every : Range
every = record { lower = Unbounded; upper = Unbounded }

all_fit : Enough (log_of begins) every 1013
unfolding pages_for page_at number_at bytes_of mark_at length_at filled first_page later_page later_pages entry_pages
all_fit p start inside = ⊎_elim (λ e. rw e (lit≤ tt)) (λ e. rw e (lit≤ tt)) (starts_there p start)

pub first_reached : holds_of every (id_at (log_of begins) 0) ≡ true
unfolding pages_for page_at number_at bytes_of mark_at length_at id_at entry_at filled first_page later_page later_pages entry_pages holds_of step_start step_page forward forward_from
first_reached = reached_inside (log_of begins) every 0 0 1 1 1 refl

pub all_scanned : Scans store begins.state every 1013 (scan_of store begins.state every)
all_scanned = scan_right store begins.state every 1013 store_is_sound all_fit

-- ---- a length that is no multiple of 1,024: the lookup and the step are refused, and leave the output

pub lookup_kept : (out : List ℕ) → (lookup_of store (state_of 1 0 1 1) 1 out).out ≡ out
unfolding bytes_of pages_for filled first_page later_page later_pages entry_pages too_long bad_state find_of hand_found lookup_of
lookup_kept out = refused_lookup_keeps store (state_of 1 0 1 1) 1 out 1 0 refl

pub step_kept : (out : List ℕ) → (step_of store (state_of 1 0 1 1) every 0 out).out ≡ out
unfolding bytes_of pages_for filled first_page later_page later_pages entry_pages too_long bad_state step_of
step_kept out = refused_step_keeps store (state_of 1 0 1 1) every 0 out 1 0 refl

-- ---- 5 is pushed with a byte: from the recovered state, and once two ids are taken, when it reads back through any later calls

abbrev takes : List Call
takes = raise 2 ∷ take_id ∷ take_id ∷ []

pub word : (i : ℕ) → i < 2 ^ 64 → Words (i ∷ [])
word i l zero = l
word i l (suc k) = lit< tt

abbrev one_word : Words (5 ∷ [])
one_word = word 5 (lit< tt)

abbrev pushes_five : Call
pushes_five = push (5 ∷ []) (1 ∷ []) (8 ∷ []) one_word

ready_there : Ready store begins.state
ready_there = let i = begun_lives begins begins_there in last_stored_ready store begins.state i.good i.last

pub five_is_held : Holds (log_after (push_of store begins.state (5 ∷ []) (1 ∷ []) (8 ∷ []))) 5 (8 ∷ [])
unfolding pages_for page_at bytes_of filled first_page later_page later_pages entry_pages too_long bad_state entry_data some bad_end bad_batch large_data some_large wrote turn entries_from push_of
five_is_held = (push_right (5 ∷ []) (1 ∷ []) (8 ∷ []) one_word store begins.state ready_there).held 0 (lit< tt)

pub all_written : (push_of store begins.state (5 ∷ []) (1 ∷ []) (8 ∷ [])).answer.written ≡ 1
unfolding pages_for page_at bytes_of filled first_page later_page later_pages entry_pages too_long bad_state entry_data some bad_end bad_batch large_data some_large wrote turn entries_from push_of
all_written = push_whole (5 ∷ []) (1 ∷ []) (8 ∷ []) store begins.state refl

abbrev pub pushed_five : World
pushed_five = step (run begins takes) pushes_five

pub five_reads_back : ReadsBack pushed_five 5 (8 ∷ []) 5120
unfolding pages_for page_at bytes_of filled first_page later_page later_pages entry_pages too_long bad_state take_of bad_step raise_of entry_data some bad_end bad_batch large_data
    some_large wrote turn entries_from push_of batch_pages answer step run
five_reads_back = read_back begins begins_there takes (5 ∷ []) (1 ∷ []) (8 ∷ []) one_word 0 (lit< tt)

five_settled : Settled pushed_five 5
unfolding pages_for bytes_of filled first_page later_page later_pages entry_pages too_long bad_state take_of bad_step raise_of entry_data some bad_end bad_batch large_data some_large wrote turn entries_from push_of answer step run
five_settled = record { some = lit≤ tt; most = lit≤ tt; below = lit< tt }

pub five_stays_read : (later : List Call) → AllSpare 5120 later → Answers (run pushed_five later) 5 (present five_reads_back.position 1) (8 ∷ [])
unfolding pages_for bytes_of filled first_page later_page later_pages entry_pages too_long bad_state take_of bad_step raise_of entry_data some bad_end bad_batch large_data some_large wrote turn entries_from push_of answer step run
five_stays_read later spare = five_reads_back.reads later spare ((settled begins begins_there (raise 2 ∷ take_id ∷ take_id ∷ pushes_five ∷ []) 5 five_settled).kept later spare).settled.below

-- ---- 4 is pushed with more than the two pages of room hold; then again with a byte, or as it was in a longer store

abbrev four_word : Words (4 ∷ [])
four_word = word 4 (lit< tt)

abbrev much : List ℕ
much = replicate 2036 7

abbrev pushes_four : List ℕ → Call
pushes_four d = push (4 ∷ []) (length d ∷ []) d four_word

-- once its id is taken
abbrev taken_four : State
taken_four = state_of 4096 3 5 5

abbrev refused_four : Push
refused_four = record { store = store; state = taken_four; ids = 4 ∷ []; ends = 2036 ∷ []; bytes = much }

pub four_refused : outcome refused_four ≡ done (refused 4 0) 0 (point taken_four store)
unfolding pages_for bytes_of filled first_page later_page later_pages entry_pages too_long bad_state entry_data some bad_end bad_batch large_data some_large wrote turn entries_from push_of
four_refused = refl

good_there : Good store 4096
unfolding pages_for bytes_of filled first_page later_page later_pages entry_pages
good_there = record { fits = store_is_sound.fits; whole = refl }

pub four_with_less : push_of store taken_four (4 ∷ []) (1 ∷ []) (8 ∷ []) ≡ done none 1 (wrote 4 (8 ∷ []) (point taken_four store))
unfolding pages_for bytes_of filled first_page later_page later_pages entry_pages too_long bad_state entry_data some bad_end bad_batch large_data some_large wrote turn entries_from push_of
four_with_less = tried_again refused_four 4 (inr refl) refl store (8 ∷ []) good_there (lit< tt) (lit≤ tt)

-- a page more
abbrev page_more : List ℕ
page_more = replicate 1024 0

good_longer : Good (store ++ page_more) 4096
unfolding pages_for bytes_of filled first_page later_page later_pages entry_pages
good_longer = record { fits = record { small = lit≤ tt; inside = lit≤ tt }; whole = refl }

pub four_with_room : push_of (store ++ page_more) taken_four (4 ∷ []) (2036 ∷ []) much ≡ done none 1 (wrote 4 much (point taken_four (store ++ page_more)))
unfolding pages_for bytes_of filled first_page later_page later_pages entry_pages too_long bad_state entry_data some bad_end bad_batch large_data some_large wrote turn entries_from push_of
four_with_room = tried_again refused_four 4 (inr refl) refl (store ++ page_more) much good_longer (lit< tt) (lit≤ tt)

-- in a history: refused, another store lent with a page more, the same push
pub four_is_last : LastStored (log_of (run begins (raise 1 ∷ take_id ∷ pushes_four much ∷ lend (replicate 3072 0) ∷ pushes_four much ∷ []))) 4
unfolding pages_for bytes_of filled first_page later_page later_pages entry_pages too_long bad_state take_of bad_step raise_of entry_data some bad_end bad_batch large_data some_large
    wrote turn entries_from push_of another_store answer step run
four_is_last = last_is_stored begins begins_there (raise 1 ∷ take_id ∷ pushes_four much ∷ lend (replicate 3072 0) ∷ pushes_four much ∷ [])

pub five_is_last : LastStored (log_after (push_of store begins.state (5 ∷ []) (1 ∷ []) (8 ∷ []))) 5
unfolding pages_for bytes_of filled first_page later_page later_pages entry_pages too_long bad_state entry_data some bad_end bad_batch large_data some_large wrote turn entries_from push_of
five_is_last = let i = begun_lives begins begins_there in push_last_stored (5 ∷ []) (1 ∷ []) (8 ∷ []) one_word store begins.state i.good i.last

-- ---- 4 with a byte and 5 on two pages are pushed, and cut in the second page of 5, whatever then lies beyond

pub two_words : Words (4 ∷ 5 ∷ [])
two_words zero = lit< tt
two_words (suc zero) = lit< tt
two_words (suc (suc k)) = lit< tt

abbrev both : List ℕ
both = 8 ∷ two_pages

abbrev pushes_both : Call
pushes_both = push (4 ∷ 5 ∷ []) (1 ∷ 1014 ∷ []) both two_words

abbrev cut_push : Push
cut_push = record { store = store ++ page_more; state = begins.state; ids = 4 ∷ 5 ∷ []; ends = 1 ∷ 1014 ∷ []; bytes = both }

longer_sound : SoundStore (store ++ page_more) 4096
unfolding pages_for page_at number_at bytes_of mark_at length_at id_at entry_at filled first_page later_page later_pages entry_pages too_long later_marks check_start check_page check_end check_from check_of
longer_sound = (checked_sound (store ++ page_more) 4096).0 refl

last_is_three : LastStored (take 4096 (store ++ page_more)) 3
unfolding pages_for page_at number_at bytes_of mark_at length_at id_at filled first_page later_page later_pages entry_pages
last_is_three = last_entry 2 last_there refl

pub both_torn : (rest : List ℕ) → Fits (take 6620 (outcome cut_push).store ++ rest) 6620
    → Torn cut_push 6620 0 (take 6620 (outcome cut_push).store ++ rest) (recover_of (take 6620 (outcome cut_push).store ++ rest) 6620 0)
unfolding pages_for bytes_of filled first_page later_page later_pages entry_pages too_long bad_state entry_data some bad_end bad_batch large_data some_large wrote turn entries_from push_of
both_torn rest fits = torn cut_push two_words longer_sound last_is_three 6620 (lit≤ tt) (lit≤ tt) rest fits 0

-- with a byte beyond: 4 is kept, a page and 476 bytes of 5 are not
pub four_kept : recover_of (take 6620 (outcome cut_push).store ++ (1 ∷ [])) 6620 0 ≡ recovered (state_of 5120 4 5 5) 476 1
unfolding pages_for page_at number_at bytes_of mark_at length_at id_at entry_at filled first_page later_page later_pages entry_pages too_long bad_state entry_data
    some bad_end bad_batch large_data some_large wrote turn entries_from push_of at_whole at_start walk_back recover_log recover_of
four_kept = refl

-- a store that differs before 4, the last whole entry, recovers alike
abbrev torn_store : List ℕ
torn_store = take 6620 (outcome cut_push).store ++ (1 ∷ [])

four_apart : Apart (whole_pages torn_store 6620) 4
unfolding pages_for page_at number_at bytes_of mark_at length_at filled first_page later_page later_pages entry_pages too_long bad_state entry_data some bad_end
    bad_batch large_data some_large wrote turn entries_from push_of
four_apart = record { start = record { inside = lit< tt; marked = refl }; before = λ q h l. l; within = lit≤ tt }

pub torn_alike : recover_of torn_store 6620 0 ≡ recover_of (entry_pages 1 (6 ∷ []) ++ drop 1024 torn_store) 6620 0
unfolding pages_for bytes_of filled first_page later_page later_pages entry_pages too_long bad_state entry_data some bad_end bad_batch large_data some_large wrote turn entries_from push_of
torn_alike =
    recover_alike torn_store (entry_pages 1 (6 ∷ []) ++ drop 1024 torn_store) 6620 0 4
    (record { small = lit≤ tt; inside = lit≤ tt }) (record { small = lit≤ tt; inside = lit≤ tt }) four_apart refl

-- a recovery that drops nothing refuses it
pub five_is_cut : strict_of torn_store 6620 0 ≡ unrecovered 7 5
unfolding pages_for page_at number_at bytes_of mark_at length_at id_at entry_at filled first_page later_page later_pages entry_pages too_long bad_state entry_data
    some bad_end bad_batch large_data some_large wrote turn entries_from push_of at_whole strict_at strict_back strict_of
five_is_cut = refl

-- what is left of it recovers to the same, and all of it adds up
pub four_again : (recover_of torn_store 5120 0 ≡ recovered (state_of 5120 4 5 5) 0 0) × (5120 + 1 * 1024 + 476 ≡ 6620)
four_again = (recovered_again torn_store 6620 0 (state_of 5120 4 5 5) 476 1 four_kept, recovered_adds_up torn_store 6620 0 (state_of 5120 4 5 5) 476 1 four_kept)

-- and a history may begin with it
pub torn_begins : Begun (world torn_store (state_of 5120 4 5 5))
unfolding pages_for page_at number_at bytes_of mark_at length_at id_at entry_at filled first_page later_page later_pages entry_pages too_long bad_state entry_data
    some bad_end bad_batch large_data some_large wrote turn entries_from push_of later_marks check_start check_page check_end check_from check_of
torn_begins = record { size = 6620; stored = 0; excess = 476; dropped = 1; is = four_kept; sound = ((checked_sound torn_store 5120).0 refl).sound }

-- in a history: a longer store is lent, both are pushed, the log is cut there, and with the stored ceiling 7 the next id is 7
abbrev torn_calls : List Call
torn_calls = lend (replicate 3072 0) ∷ pushes_both ∷ cut_log 6620 7 (1 ∷ []) ∷ raise 1 ∷ take_id ∷ []

pub torn_goes_on : ((run begins torn_calls).state ≡ state_of 5120 4 8 8) × AllSpare 4096 torn_calls
unfolding pages_for page_at number_at bytes_of mark_at length_at id_at entry_at filled first_page later_page later_pages entry_pages too_long bad_state take_of bad_step raise_of
    entry_data some bad_end bad_batch large_data some_large wrote turn entries_from push_of at_whole at_start walk_back recover_log recover_of another_store answer
    step run
torn_goes_on = (refl, (tt, (tt, (lit≤ tt, (tt, (tt, tt))))))

-- where 3 is found as before
pub three_through_a_cut : (out : List ℕ) → 1013 ≤ length out → LooksUp (answer (run begins torn_calls) (lookup 3 out)) (present 2048 1013) (replicate 1013 9 ++ drop 1013 out)
three_through_a_cut = three_stays_found torn_calls torn_goes_on.1

-- the last id of all is pushed: recovery of the log then answers 9, and with a state made up of its length and that id 3 is still found as before
abbrev top_word : Words (0xffffffffffffffff ∷ [])
top_word = word 0xffffffffffffffff (lit< tt)

abbrev pushes_top : Call
pushes_top = push (0xffffffffffffffff ∷ []) (0 ∷ []) [] top_word

pub three_after_nine : KeepsFull (run begins (pushes_top ∷ [])) 5120 [] 3 (present 2048 1013) (replicate 1013 9) 4096
unfolding pages_for page_at number_at bytes_of mark_at length_at id_at entry_at place_of data_of data_at filled first_page later_page later_pages entry_pages too_long
    bad_state least_from least_shift offset_of compared saying_at turned walk search search_of find_of entry_data some bad_end bad_batch large_data some_large
    wrote turn entries_from push_of at_whole at_start walk_back recover_log recover_of standing_data settled answer step run
three_after_nine = (settled begins begins_there [] 3 (settled_there 3 (lit≤ tt) (lit≤ tt))).full (pushes_top ∷ []) (tt, tt) 5120 0 [] (lit≤ tt) refl (lit< tt)

-- 4 reads back through any cut after its page, though 5 of the same push is cut
abbrev lent_calls : List Call
lent_calls = lend (replicate 3072 0) ∷ raise 2 ∷ take_id ∷ take_id ∷ []

pub four_reads_back : ReadsBack (step (run begins lent_calls) pushes_both) 4 (8 ∷ []) 5120
unfolding pages_for page_at bytes_of filled first_page later_page later_pages entry_pages too_long bad_state take_of bad_step raise_of entry_data some bad_end bad_batch large_data
    some_large wrote turn entries_from push_of batch_pages another_store answer step run
four_reads_back = read_back begins begins_there lent_calls (4 ∷ 5 ∷ []) (1 ∷ 1014 ∷ []) both two_words 0 (lit< tt)

abbrev cut_then : World
cut_then = run (step (run begins lent_calls) pushes_both) (cut_log 6620 0 (1 ∷ []) ∷ [])

pub four_below_next : 4 < cut_then.state.next
unfolding pages_for page_at number_at bytes_of mark_at length_at id_at entry_at filled first_page later_page later_pages entry_pages too_long bad_state take_of bad_step raise_of
    entry_data some bad_end bad_batch large_data some_large wrote turn entries_from push_of at_whole at_start walk_back recover_log recover_of another_store answer
    step run
four_below_next = lit< tt

pub four_stays_read : Answers cut_then 4 (present four_reads_back.position 1) (8 ∷ [])
four_stays_read = four_reads_back.reads (cut_log 6620 0 (1 ∷ []) ∷ []) (lit≤ tt, tt) four_below_next

-- the log cut without a push, in its last entry
pub cut_in_three : RightCut (log_of begins) 3500 0 (recover_of (take 3500 (log_of begins) ++ []) 3500 0)
unfolding pages_for bytes_of filled first_page later_page later_pages entry_pages
cut_in_three = cut_at_byte (log_of begins) store_is_sound.sound 3500 (lit≤ tt) [] (record { small = lit≤ tt; inside = lit≤ tt }) 0

-- nothing is cut off the whole log
pub whole_uncut : recover_of store 4096 0 ≡ strict_of store 4096 0
unfolding pages_for page_at number_at bytes_of mark_at length_at id_at entry_at filled first_page later_page later_pages entry_pages too_long at_whole strict_at strict_back strict_of
whole_uncut = uncut_same store 4096 0 (λ s e. cc)

-- ---- 13.6, of any 16,777,208 bytes and any store with last written 6

module _ (store₆ : List ℕ) (st : State) (g : Good store₆ st.length) (six : st.last ≡ 6) (d : List ℕ) (long : length d ≡ 16777208) where
  abbrev seven : Push
  seven = record { store = store₆; state = st; ids = 7 ∷ []; ends = length d ∷ []; bytes = d }

  -- refusal 3, nothing written, and the state and the store stay
  pub seven_refused : outcome seven ≡ done (refused 3 0) 0 (point st store₆)
  seven_refused = one_too_large store₆ st 7 d g (omega arith) long

  -- then with fewer bytes, as many as have room
  pub seven_written : (less : List ℕ) → length less < 16777208 → bytes_for less ≤ length store₆ - st.length
      → push_of (outcome seven).store (outcome seven).answer.state (7 ∷ []) (length less ∷ []) less ≡ done none 1 (wrote 7 less (point st store₆))
  seven_written less b c =
      let why = ap (λ (r : Done). r.answer.reason) seven_refused in
      rw seven_refused (rw seven_refused at (tried_again seven 3 (inl refl) why store₆ less (rw seven_refused g) b (rw seven_refused c)))

-- so many bytes there are, and such a store
pub seven_there : (length {A = ℕ} (replicate 16777208 0) ≡ 16777208) × Good store 4096
seven_there = (length-replicate {0} {A = ℕ} 16777208 0, good_there)

-- ---- the pages of 5 are the same wherever it is pushed

-- on two pages, the second of which is nearly all filling
abbrev eights : List ℕ
eights = replicate 1013 8

-- after 4 with three bytes, in one push from fresh, over pages that hold 255
abbrev after_nines : Push
after_nines = record { store = replicate 3072 255; state = fresh; ids = 4 ∷ 5 ∷ []; ends = 3 ∷ 1016 ∷ []; bytes = 9 ∷ 9 ∷ 9 ∷ eights }

-- after 4 with another byte
abbrev after_six : Push
after_six = record { store = replicate 3072 255; state = fresh; ids = 4 ∷ 5 ∷ []; ends = 1 ∷ 1014 ∷ []; bytes = 6 ∷ eights }

-- by itself, after the log above
abbrev by_itself : Push
by_itself = record { store = store; state = begins.state; ids = 5 ∷ []; ends = 1013 ∷ []; bytes = eights }

pub five_alike : pages_of after_nines 1 ≡ pages_of by_itself 0
unfolding pages_for page_at bytes_of filled first_page later_page later_pages entry_pages too_long bad_state entry_data some bad_end bad_batch large_data some_large wrote turn entries_from push_of
five_alike = pages_alone after_nines by_itself 1 0 (lit< tt) (lit< tt) refl refl

pub five_filled : drop 1026 (pages_of after_nines 1) ≡ replicate 1022 0
unfolding pages_for page_at bytes_of filled first_page later_page later_pages entry_pages too_long bad_state entry_data some bad_end bad_batch large_data some_large wrote turn entries_from push_of place_of
five_filled = filling_written after_nines 1 (lit< tt)

data_alike : (i : ℕ) → data_in after_nines (1 + i) ≡ data_in after_six (1 + i)
unfolding entry_data
data_alike zero = refl
data_alike (suc zero) = refl
data_alike (suc (suc i)) = let e : 1 + suc (suc i) ≡ suc (suc (suc i)) = omega arith in rw e

alike_from_five : AlikeFrom after_nines after_six 1 1
alike_from_five = record { same_id = λ i. refl; same_data = data_alike }

pub nines_hidden : pages_of after_nines 1 ≡ pages_of after_six 1
unfolding pages_for page_at bytes_of filled first_page later_page later_pages entry_pages too_long bad_state entry_data some bad_end bad_batch large_data some_large wrote turn entries_from push_of
nines_hidden = earlier_hidden after_nines after_six 1 1 alike_from_five 0 (lit< tt) (lit< tt)

-- ---- guesses that are not the rule's come to the same answer: the first of all pages, and then the last of those left

first_round : round_from (log_of begins) 3 (all_pages (log_of begins) 4) 0 ≡ again (window 1 4 1 4)
unfolding pages_for page_at number_at bytes_of mark_at length_at id_at entry_at filled first_page later_page later_pages entry_pages compared saying_at turned walk
first_round = refl

second_round : round_from (log_of begins) 3 (window 1 4 1 4) 3 ≡ stop (found 2048 1013)
unfolding pages_for page_at number_at bytes_of mark_at length_at id_at entry_at filled first_page later_page later_pages entry_pages compared saying_at turned walk
second_round = refl

some_pages : 0 < page_count (log_of begins)
unfolding pages_for bytes_of filled first_page later_page later_pages entry_pages
some_pages = lit< tt

pub other_guesses : AnyGuess (log_of begins) 3 (all_pages (log_of begins) 4) (found 2048 1013)
other_guesses = narrows (all_pages (log_of begins) 4) (window 1 4 1 4) 0 (found 2048 1013) (omega arith) some_pages first_round (stops (window 1 4 1 4) 3 (found 2048 1013) (lit≤ tt) (lit< tt) second_round)

pub other_guesses_right : RightStanding (log_of begins) 3 (present 2048 1013)
other_guesses_right = any_guess_right (log_of begins) store_is_sound.sound 3 4 other_guesses

-- ---- a length with an excess: 1,030 bytes, of which page 0 holds id 9

nine_sound : SoundStore nine_page 1024
unfolding pages_for page_at number_at bytes_of mark_at length_at id_at entry_at filled first_page later_page later_pages entry_pages too_long later_marks check_start check_page check_end check_from check_of
nine_sound = (checked_sound nine_page 1024).0 refl

nine_fits : Fits nine_page 1030
unfolding pages_for bytes_of filled first_page later_page later_pages entry_pages
nine_fits = record { small = nine_sound.fits.small; inside = lit≤ tt }

pub excess_recovers : RightRecovery (take 1024 nine_page) 20 6 0 (recover_of nine_page 1030 20)
excess_recovers = recover_right nine_page 1030 20 nine_fits nine_sound.sound

-- ---- a log whose first entry has another byte recovers alike: it agrees from page 2 on, where the last entry starts

abbrev pub other : List ℕ
other = entry_pages 1 (6 ∷ []) ++ drop 1024 store

fits_there : Fits other 4096
unfolding pages_for bytes_of filled first_page later_page later_pages entry_pages
fits_there = record { small = lit≤ tt; inside = lit≤ tt }

same_from_there : drop 2048 (whole_pages store 4096) ≡ drop 2048 (whole_pages other 4096)
unfolding pages_for bytes_of filled first_page later_page later_pages entry_pages
same_from_there = refl

pub recovers_alike : recover_of store 4096 0 ≡ recover_of other 4096 0
recovers_alike = recover_alike store other 4096 0 2 store_is_sound.fits fits_there (sound_apart (log_of begins) store_is_sound.sound 2 last_there.start) same_from_there

-- ---- the data of the entry on that page of id 9 is a part of the log

pub five_bytes : data_at nine_page 0 5 ≡ take 5 (drop 12 nine_page)
unfolding pages_for bytes_of filled first_page later_page later_pages entry_pages
five_bytes = data_one_part nine_page 0 5 (lit≤ tt) (lit< tt)

-- ---- a sequence from 1, over words that are not zero

abbrev ones : List ℕ
ones = replicate 64 255

pub notes_right : RightSequence 1 (run-notes (begun 1 ones) (3 ∷ 1 ∷ [])) (run-notes (run-notes (begun 1 ones) (3 ∷ 1 ∷ [])) (2 ∷ 4 ∷ []))
notes_right = complete_right 1 ones refl (3 ∷ 1 ∷ []) (2 ∷ 4 ∷ [])

pub three_added : (i : ℕ) → Known 4 1 (note_of (new_of 1) ones 3).words i ↔ (Known 1 1 ones i ⊎ (i ≡ 3))
unfolding only shifted rounds note_of
three_added = note_adds (new_of 1) ones refl 3 1 4 refl
