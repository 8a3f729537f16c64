-- Rules 13, "Worked cases": all but 13.6, which is too long for a list (Witnessed has it), in one list under one statement. Assumes nothing.
use Rattle.std.proofs.Common.{◌≡◌, ℕ, Bool, true, false, List, [], ◌∷◌, ◌++◌, take, drop, replicate, refl}
use Rattle.page.specs.Size.{pages_for, page_at}
use Rattle.page.specs.Bytes.{number_at, bytes_of}
use Rattle.page.specs.Mark.{mark_at}
use Rattle.page.specs.Entry.{length_at, id_at, entry_at}
use Rattle.page.specs.Write.{filled, first_page, later_page, later_pages, entry_pages}
use Rattle.catalog.specs.Bounds.{too_long, bad_state}
use Rattle.catalog.specs.State.{fresh, state_of, Taking, taken, refused as untaken, take_of}
use Rattle.catalog.specs.Raise.{Raising, raised, refused as unraised, bad_step, raise_of}
use Rattle.catalog.specs.Guess.{least_from, least_shift, offset_of}
use Rattle.catalog.specs.Lookup.{Looking, found, absent, refused, all_pages, guess_in, compared, saying_at, turned, walk, search, search_of, find_of}
use Rattle.catalog.specs.Recovery.{Recovering, recovered, refused as unrecovered, at_whole, at_start, walk_back, recover_log, recover_of}
use Rattle.pushing.specs.Push.{Why, none, refused as unpushed, Done, entry_data, some, bad_end, bad_batch, large_data, some_large, wrote, turn, entries_from, push_of}
use Rattle.catalog.specs.declared.state.State.{State}
use Rattle.sequence.specs.Window.{only, shifted}
use Rattle.sequence.specs.Sequence.{complete_of, rounds, note_of}
use Rattle.sequence.specs.History.{begun, answered, run}

-- ---- answers as numbers

of_state : State → List ℕ
of_state st = st.length ∷ st.last ∷ st.next ∷ st.ceiling ∷ []

-- 1, position and data length; 0 and position; or 2, number and value
of_look : Looking → List ℕ
of_look (found position len) = 1 ∷ position ∷ len ∷ []
of_look (absent position) = 0 ∷ position ∷ []
of_look (refused number value) = 2 ∷ number ∷ value ∷ []

-- the reason's number, 0 for none; the count of entries written; the state
of_why : Why → ℕ
of_why none = 0
of_why (unpushed number value) = number

of_push : Done → List ℕ
of_push r = of_why r.answer.reason ∷ r.answer.written ∷ of_state r.answer.state

-- the excess, the pages dropped and the state
of_recovery : Recovering → List ℕ
of_recovery (recovered st excess dropped) = excess ∷ dropped ∷ of_state st
of_recovery (unrecovered number value) = number ∷ value ∷ []

-- the id and the state; or number and value
of_take : Taking → List ℕ
of_take (taken id st) = id ∷ of_state st
of_take (untaken number value) = number ∷ value ∷ []

-- the state; or number and value
of_raise : Raising → List ℕ
of_raise (raised st) = of_state st
of_raise (unraised number value) = number ∷ value ∷ []

-- complete: 1 for yes, 0 for no
of_answer : Bool → ℕ
of_answer true = 1
of_answer false = 0

-- ---- what the definitions compute

abbrev hello : List ℕ
hello = 0x68 ∷ 0x65 ∷ 0x6c ∷ 0x6c ∷ 0x6f ∷ []

-- the push of (1, "hello") and (2, no data) from fresh, in a store of two pages that hold 255
abbrev hello_push : Done
hello_push = push_of (replicate 2048 255) fresh (1 ∷ 2 ∷ []) (5 ∷ 5 ∷ []) hello

-- ten one-page entries 1 to 10
abbrev ten_push : Done
ten_push = push_of (replicate 10240 0) fresh (1 ∷ 2 ∷ 3 ∷ 4 ∷ 5 ∷ 6 ∷ 7 ∷ 8 ∷ 9 ∷ 10 ∷ []) (replicate 10 0) []

-- id 1 with payload 3,000, then ids 2, 3, 4
abbrev six_push : Done
six_push = push_of (replicate 6144 0) fresh (1 ∷ 2 ∷ 3 ∷ 4 ∷ []) (replicate 4 2992) (replicate 2992 0x78)

-- page 0 holding id 9, and six bytes more
abbrev pub nine_page : List ℕ
nine_page = entry_pages 9 hello ++ replicate 6 0

-- (1, "hello"), then id 2 with payload 3,000
abbrev long_push : Done
long_push = push_of (replicate 4096 0) fresh (1 ∷ 2 ∷ []) (5 ∷ 2997 ∷ []) (hello ++ replicate 2992 0x78)

-- the fresh state raised by 2, and (1, "hello") pushed once 1 and 2 are taken
abbrev raised_two : State
raised_two = state_of 0 0 1 3

abbrev used_push : Done
used_push = push_of (replicate 1024 255) (state_of 0 0 3 3) (1 ∷ []) (5 ∷ []) hello

-- complete after each of the notes 3, 1, 2, 4 from 1
abbrev notes : List ℕ → Bool
notes ids = complete_of (run (begun 1 (replicate 64 0)) ids).sequence

-- each case as the definitions have it
pub computed : List (List ℕ)
computed =
    (pages_for 8 ∷ pages_for 1020 ∷ pages_for 1021 ∷ pages_for 2043 ∷ pages_for 2044 ∷ pages_for 3000 ∷ pages_for 16777215 ∷ [])
    ∷ of_push hello_push
    ∷ take 1024 hello_push.store
    ∷ drop 1024 hello_push.store
    ∷ of_look (find_of hello_push.store hello_push.answer.state 1)
    ∷ of_push ten_push
    ∷ (guess_in 5 (all_pages ten_push.store 11) ∷ [])
    ∷ of_push six_push
    ∷ of_look (find_of six_push.store (state_of 6144 4 8 8) 2)
    ∷ of_push (push_of (replicate 2048 0) (state_of 0 5 1 1) (6 ∷ 6 ∷ []) (0 ∷ 0 ∷ []) [])
    ∷ of_recovery (recover_of nine_page 1030 0)
    ∷ (of_answer (notes (3 ∷ [])) ∷ of_answer (notes (3 ∷ 1 ∷ [])) ∷ of_answer (notes (3 ∷ 1 ∷ 2 ∷ [])) ∷ of_answer (notes (3 ∷ 1 ∷ 2 ∷ 4 ∷ [])) ∷ [])
    ∷ of_recovery (recover_of long_push.store 3500 0)
    ∷ of_recovery (recover_of long_push.store 2047 0)
    ∷ of_recovery (recover_of long_push.store 1023 0)
    ∷ of_raise (raise_of fresh 2)
    ∷ of_take (take_of raised_two)
    ∷ of_take (take_of (state_of 0 0 2 3))
    ∷ of_take (take_of (state_of 0 0 3 3))
    ∷ of_push used_push
    ∷ of_recovery (recover_of used_push.store 1024 3)
    ∷ of_raise (raise_of (state_of 1024 1 3 3) 1)
    ∷ of_take (take_of (state_of 1024 1 3 4))
    ∷ of_look (find_of used_push.store (state_of 1024 1 4 4) 2)
    ∷ of_recovery (recover_of used_push.store 1024 0)
    ∷ of_take (take_of (state_of 1024 1 2 3))
    ∷ of_raise (raise_of fresh 0)
    ∷ of_raise (raise_of fresh 0x100000001)
    ∷ of_raise (raise_of (state_of 0 0 1 0xfffffffffffffffe) 1)
    ∷ of_raise (raise_of (state_of 0 0 1 0xfffffffffffffffe) 2)
    ∷ []

-- each case as the rules have it
pub as_written : List (List ℕ)
as_written =
    -- 13.1: pages for seven payloads
    (1 ∷ 1 ∷ 2 ∷ 2 ∷ 3 ∷ 3 ∷ 16401 ∷ [])
    -- 13.2: no refusal, two entries written, the state
    ∷ (0 ∷ 2 ∷ 2048 ∷ 2 ∷ 1 ∷ 1 ∷ [])
    -- 13.2: page 0
    ∷ ((1 ∷ 0 ∷ 0 ∷ 0x0d ∷ 0 ∷ 0 ∷ 0 ∷ 0 ∷ 0 ∷ 0 ∷ 0 ∷ 1 ∷ 0x68 ∷ 0x65 ∷ 0x6c ∷ 0x6c ∷ 0x6f ∷ []) ++ replicate 1007 0)
    -- 13.2: page 1
    ∷ ((1 ∷ 0 ∷ 0 ∷ 0x08 ∷ 0 ∷ 0 ∷ 0 ∷ 0 ∷ 0 ∷ 0 ∷ 0 ∷ 2 ∷ []) ++ replicate 1012 0)
    -- 13.2: 1 is absent at 2,048
    ∷ (0 ∷ 2048 ∷ [])
    -- 13.3: ten entries written
    ∷ (0 ∷ 10 ∷ 10240 ∷ 10 ∷ 1 ∷ 1 ∷ [])
    -- 13.3: the first guess for 5
    ∷ (4 ∷ [])
    -- 13.4: four entries written on six pages
    ∷ (0 ∷ 4 ∷ 6144 ∷ 4 ∷ 1 ∷ 1 ∷ [])
    -- 13.4: 2 is found at 3,072
    ∷ (1 ∷ 3072 ∷ 0 ∷ [])
    -- 13.5: refusal 2, one entry written, last written 6
    ∷ (2 ∷ 1 ∷ 1024 ∷ 6 ∷ 1 ∷ 1 ∷ [])
    -- 13.7: the excess, no page dropped, and the state
    ∷ (6 ∷ 0 ∷ 1024 ∷ 9 ∷ 10 ∷ 10 ∷ [])
    -- 13.8: complete, 1 for yes
    ∷ (0 ∷ 0 ∷ 1 ∷ 1 ∷ [])
    -- 13.9: the excess, the pages dropped and the state, of each cut
    ∷ (428 ∷ 2 ∷ 1024 ∷ 1 ∷ 2 ∷ 2 ∷ [])
    ∷ (1023 ∷ 0 ∷ 1024 ∷ 1 ∷ 2 ∷ 2 ∷ [])
    ∷ (1023 ∷ 0 ∷ 0 ∷ 0 ∷ 1 ∷ 1 ∷ [])
    -- 13.10: raised by 2, ids 1 and 2, then refusal 30
    ∷ (0 ∷ 0 ∷ 1 ∷ 3 ∷ [])
    ∷ (1 ∷ 0 ∷ 0 ∷ 2 ∷ 3 ∷ [])
    ∷ (2 ∷ 0 ∷ 0 ∷ 3 ∷ 3 ∷ [])
    ∷ (30 ∷ 0 ∷ [])
    -- 13.10: 1 is pushed
    ∷ (0 ∷ 1 ∷ 1024 ∷ 1 ∷ 3 ∷ 3 ∷ [])
    -- 13.10: recovered with the stored ceiling 3, raised by 1, the next id, and where 2 is absent
    ∷ (0 ∷ 0 ∷ 1024 ∷ 1 ∷ 3 ∷ 3 ∷ [])
    ∷ (1024 ∷ 1 ∷ 3 ∷ 4 ∷ [])
    ∷ (3 ∷ 1024 ∷ 1 ∷ 4 ∷ 4 ∷ [])
    ∷ (0 ∷ 1024 ∷ [])
    -- 13.10: with 0, and 2 again
    ∷ (0 ∷ 0 ∷ 1024 ∷ 1 ∷ 2 ∷ 2 ∷ [])
    ∷ (2 ∷ 1024 ∷ 1 ∷ 3 ∷ 3 ∷ [])
    -- 13.10: steps that are refused, and the highest ceiling
    ∷ (31 ∷ 0 ∷ [])
    ∷ (31 ∷ 0 ∷ [])
    ∷ (0 ∷ 0 ∷ 1 ∷ 0xffffffffffffffff ∷ [])
    ∷ (31 ∷ 0 ∷ [])
    ∷ []

-- what the definitions compute is what the rules say
pub worked : computed ≡ as_written
unfolding computed as_written of_state of_look of_why of_push of_recovery of_take of_raise of_answer take_of bad_step raise_of pages_for page_at number_at bytes_of mark_at length_at id_at entry_at filled
    first_page later_page later_pages entry_pages too_long bad_state least_from least_shift offset_of compared saying_at turned walk search search_of find_of
    at_whole at_start walk_back recover_log recover_of entry_data some bad_end bad_batch large_data some_large wrote turn entries_from push_of only shifted rounds
    note_of answered run
worked = refl
