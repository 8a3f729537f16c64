-- Rules 11, "What is promised", 11.11: which ids the calls of a history hand out, push and find, by what they answered. What was said before a call stands with the latest first.
use Rattle.std.specs.Prelude.{ℕ, ◌≤◌, ◌<◌, ◌≡◌, ◌⊎◌, List, [], ◌∷◌, length, get_or, take}
use Rattle.catalog.specs.Output.{with_output}
use Rattle.catalog.specs.State.{taken}
use Rattle.catalog.specs.Lookup.{found, refused}
use Rattle.pushing.specs.Push.{Done, entry_data}
use Rattle.scanning.specs.Step.{entry}
use Rattle.catalog.specs.declared.state.State.{State}
use Rattle.scanning.specs.declared.range.Range.{Range}
use Rattle.demands.specs.History.{Call, push, take_id, raise, find, lookup, scan, step_on, recover, lend, cut_log, Words}
use Rattle.demands.specs.History.{Answer, pushed, handed_out, raised_to, located, looked_up, scan_began, stepped, restored, lent, reopened}
use Rattle.demands.specs.History.{state_after_take, state_after_raise, state_after_recovery, Said}

-- ---- what a call did, by its answer

-- it handed out that id
pub record HandsOut (id : ℕ) (x : Said) : Type 0 where
  pub state : State
  pub is : x.reply ≡ handed_out (taken id state)

-- it is a push that counts an entry with that id and that data
pub record Pushes (id : ℕ) (d : List ℕ) (x : Said) : Type 0 where
  pub ids : List ℕ
  pub ends : List ℕ
  pub bytes : List ℕ
  pub words : Words ids
  pub called : x.call ≡ push ids ends bytes words
  pub done : Done
  pub is : x.reply ≡ pushed done
  pub place : ℕ
  pub counted : place < done.answer.written
  pub id_is : get_or ids place 0 ≡ id
  pub data_is : entry_data ends bytes place ≡ d

-- 11.11 "found, or handed over by a step": an entry with that id and so many bytes; refusal 10 tells of one too
pub data Finds (id len : ℕ) (x : Said) : Type 0 where
  by_find : (position : ℕ) → x.call ≡ find id → x.reply ≡ located (found position len) → Finds id len x
  by_lookup : (out left : List ℕ) (position : ℕ) → x.call ≡ lookup id out → x.reply ≡ looked_up (with_output (found position len) left) → Finds id len x
  by_ten : (out left : List ℕ) → x.call ≡ lookup id out → x.reply ≡ looked_up (with_output (refused 10 len) left) → Finds id len x
  by_step : (range : Range) (cursor : ℕ) (out left : List ℕ) (next : ℕ) → x.call ≡ step_on range cursor out
      → x.reply ≡ stepped (with_output (entry id len next) left) → Finds id len x

-- 11.11 "with the data of that push": what then stands at the output's front
pub data Reads (id : ℕ) (d : List ℕ) (x : Said) : Type 0 where
  read_by_lookup : (out left : List ℕ) (position len : ℕ) → x.call ≡ lookup id out
      → x.reply ≡ looked_up (with_output (found position len) left) → take len left ≡ d → Reads id d x
  read_by_step : (range : Range) (cursor : ℕ) (out left : List ℕ) (len next : ℕ) → x.call ≡ step_on range cursor out
      → x.reply ≡ stepped (with_output (entry id len next) left) → take len left ≡ d → Reads id d x

-- ---- what was said before

-- some of it is so
abbrev pub Some : (Said → Type 0) → List Said → Type 0
Some P [] = ⊥
Some P (x ∷ before) = P x ⊎ Some P before

-- each thing that was said is so in its turn, with what was said before it
abbrev pub InTurn : (List Said → Said → Type 0) → List Said → List Said → Type 0
InTurn P before [] = Unit {0}
InTurn P before (x ∷ later) = P before x × InTurn P (x ∷ before) later

-- the state that was answered; st where none was
abbrev pub state_in : State → Answer → State
state_in st (pushed r) = r.answer.state
state_in st (handed_out r) = state_after_take st r
state_in st (raised_to r) = state_after_raise st r
state_in st (located r) = st
state_in st (looked_up r) = st
state_in st (scan_began r) = st
state_in st (stepped r) = st
state_in st (restored r) = state_after_recovery st r
state_in st (lent store) = st
state_in st (reopened store r) = state_after_recovery st r

-- 11.11 "the state that was answered last, or of the one at the beginning"
abbrev pub last_answered : State → List Said → State
last_answered first [] = first
last_answered first (x ∷ before) = state_in (last_answered first before) x.reply

-- ---- what is asked of each call, given what was said before it

-- 11.11 "every id that a push counts have been handed out earlier in it"
pub record HandedBefore (before : List Said) (x : Said) : Type 0 where
  pub handed : (id : ℕ) (d : List ℕ) → Pushes id d x → Some (HandsOut id) before

-- 11.11 "be counted by no other push"
pub record PushedOnce (before : List Said) (x : Said) : Type 0 where
  pub once : (id : ℕ) (d e : List ℕ) → Pushes id d x → Some (Pushes id e) before → ⊥

-- a recovery, or that of a cut, is given a stored ceiling of n or more
abbrev pub GivenAtLeast : ℕ → Call → Type 0
GivenAtLeast n (push ids ends bytes words) = Unit {0}
GivenAtLeast n take_id = Unit {0}
GivenAtLeast n (raise by) = Unit {0}
GivenAtLeast n (find id) = Unit {0}
GivenAtLeast n (lookup id out) = Unit {0}
GivenAtLeast n (scan range) = Unit {0}
GivenAtLeast n (step_on range cursor out) = Unit {0}
GivenAtLeast n (recover stored) = n ≤ stored
GivenAtLeast n (lend rest) = Unit {0}
GivenAtLeast n (cut_log bytes stored rest) = n ≤ stored

-- 11.11 "a stored ceiling at or above next of the state that was answered last": of a history that began with that state
abbrev pub StoredAbove : State → List Said → Said → Type 0
StoredAbove first before x = GivenAtLeast (last_answered first before).next x.call

-- 11.11 "the ceiling that was answered last": or one above it
abbrev pub StoredLast : State → List Said → Said → Type 0
StoredLast first before x = GivenAtLeast (last_answered first before).ceiling x.call

-- ---- what then holds of it

pub record PushedBefore (id : ℕ) (before : List Said) : Type 0 where
  pub data_is : List ℕ
  pub some : Some (Pushes id data_is) before

-- if recoveries are given a high enough ceiling
pub record HandedOnce (before : List Said) (x : Said) : Type 0 where
  -- 11.11 "no id is handed out twice"
  pub new : (id : ℕ) → HandsOut id x → Some (HandsOut id) before → ⊥
  -- 11.11 "one that was handed out is found, or handed over by a step, only after a push that counted it"
  pub pushed : (id len : ℕ) → Finds id len x → Some (HandsOut id) before → PushedBefore id before

-- if also every id that is pushed was handed out before, and no other push counted it
pub record UsedOnce (before : List Said) (x : Said) : Type 0 where
  pub handed : HandedOnce before x
  -- 11.11 "neither handed out nor pushed nor found before"
  pub unpushed : (id : ℕ) (d : List ℕ) → HandsOut id x → Some (Pushes id d) before → ⊥
  pub unfound : (id len : ℕ) → HandsOut id x → Some (Finds id len) before → ⊥
  -- 11.11 "with the data of that push, the only one"
  pub same : (id : ℕ) (d e : List ℕ) → Reads id d x → Some (HandsOut id) before → Some (Pushes id e) before → d ≡ e
  pub sized : (id len : ℕ) (e : List ℕ) → Finds id len x → Some (HandsOut id) before → Some (Pushes id e) before → len ≡ length e
