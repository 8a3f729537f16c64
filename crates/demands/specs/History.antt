-- Rules 11, "What is promised", 11.8 to 11.10: a store with its state, the calls and cuts, what they answer and what they leave, and the settled ids.
use Rattle.std.specs.Prelude.{ℕ, ◌*◌, ◌/◌, ◌^◌, ◌≤◌, ◌<◌, ◌≡◌, length, get_or, take}
use mathlib.Core.List.{List, [], ◌∷◌, ◌++◌, Memᴰ}
use Rattle.refusal.specs.Pick.{pick}
use Rattle.page.specs.Size.{page_size}
use Rattle.page.specs.Entry.{id_at}
use Rattle.page.specs.Data.{data_at}
use Rattle.page.specs.Write.{overwritten}
use Rattle.catalog.specs.Bounds.{too_long}
use Rattle.catalog.specs.Output.{WithOutput}
use Rattle.catalog.specs.State.{state_of, top_id, Taking, taken, refused as untaken, take_of}
use Rattle.catalog.specs.Raise.{Raising, raised, refused as unraised, raise_of}
use Rattle.pushing.specs.Push.{Done, push_of}
use Rattle.catalog.specs.Recovery.{Recovering, recovered, refused as unrecovered, recover_of}
use Rattle.catalog.specs.Lookup.{Looking, find_of, lookup_of}
use Rattle.scanning.specs.Scan.{Beginning, scan_of}
use Rattle.scanning.specs.Step.{Stepping, step_of}
use Rattle.catalog.specs.declared.state.State.{State}
use Rattle.scanning.specs.declared.range.Range.{Range}
use Rattle.demands.specs.Sound.{Start, Sound, Stored, Last}
use Rattle.demands.specs.Push.{Push}
use Rattle.demands.specs.Recovery.{Left}
use Rattle.demands.specs.Lookup.{Standing, present, missing, unsaid, standing}

-- the bytes of the store, and the state that its owner holds
pub record World : Type 0 where
  pub store : List ℕ
  pub state : State

abbrev pub world : List ℕ → State → World
world store st = record { store = store; state = st }

-- 1.1 "the log is the first `length` bytes of it"
abbrev pub log_of : World → List ℕ
log_of w = take w.state.length w.store

-- ---- calls

-- ids are 64-bit numbers
abbrev pub Words : List ℕ → Type 0
Words ids = (k : ℕ) → get_or ids k 0 < 2 ^ 64

-- any push, take, raising, find, lookup, scan, step or recovery at the log's length: any batch, step, id, range, cursor, output and stored ceiling; another store, with any bytes after the log;
-- and a cut after n bytes of the log, with any bytes beyond and any stored ceiling
pub data Call : Type 0 where
  push : (ids ends bytes : List ℕ) → Words ids → Call
  take_id : Call
  raise : (step : ℕ) → Call
  find : (id : ℕ) → Call
  lookup : (id : ℕ) (out : List ℕ) → Call
  scan : (range : Range) → Call
  step_on : (range : Range) (cursor : ℕ) (out : List ℕ) → Call
  recover : (stored : ℕ) → Call
  lend : (rest : List ℕ) → Call
  cut_log : (n stored : ℕ) (rest : List ℕ) → Call

-- what a call answers, and what it leaves in what it is lent, by the definitions that the functions' contracts cite
pub data Answer : Type 0 where
  pushed : Done → Answer
  handed_out : Taking → Answer
  raised_to : Raising → Answer
  located : Looking → Answer
  looked_up : WithOutput Looking → Answer
  scan_began : Beginning → Answer
  stepped : WithOutput Stepping → Answer
  restored : Recovering → Answer
  lent : List ℕ → Answer
  reopened : (store : List ℕ) → Recovering → Answer

-- another store that begins with the log; one that is refused 1 is not gone on with
unfoldable pub another_store : World → List ℕ → List ℕ
another_store w rest = pick (too_long (log_of w ++ rest) w.state.length) w.store (log_of w ++ rest)

-- 11 "the store keeps the bytes before the cut and holds anything beyond": those bytes, all of the log if it has no more
abbrev pub kept_of : World → ℕ → List ℕ
kept_of w n = take n (log_of w)

unfoldable pub answer : World → Call → Answer
answer w (push ids ends bytes words) = pushed (push_of w.store w.state ids ends bytes)
answer w take_id = handed_out (take_of w.state)
answer w (raise by) = raised_to (raise_of w.state by)
answer w (find id) = located (find_of w.store w.state id)
answer w (lookup id out) = looked_up (lookup_of w.store w.state id out)
answer w (scan range) = scan_began (scan_of w.store w.state range)
answer w (step_on range cursor out) = stepped (step_of w.store w.state range cursor out)
answer w (recover stored) = restored (recover_of w.store w.state.length stored)
answer w (lend rest) = lent (another_store w rest)
answer w (cut_log n stored rest) = reopened (kept_of w n ++ rest) (recover_of (kept_of w n ++ rest) (length (kept_of w n)) stored)

-- the state after an id was asked for: 3.2 "a refusal leaves the state"
abbrev pub state_after_take : State → Taking → State
state_after_take st (taken id state) = state
state_after_take st (untaken number value) = st

-- after a raising
abbrev pub state_after_raise : State → Raising → State
state_after_raise st (raised state) = state
state_after_raise st (unraised number value) = st

-- and after a recovery
abbrev pub state_after_recovery : State → Recovering → State
state_after_recovery st (recovered state excess dropped) = state
state_after_recovery st (unrecovered number value) = st

-- 11 "the state is the one that recovery gives there, with any stored ceiling. A cut after which recovery gives none, by 1 or by 9, is not gone on with"
abbrev pub after_cut : World → List ℕ → Recovering → World
after_cut w store (recovered state excess dropped) = world store state
after_cut w store (unrecovered number value) = w

-- the world after an answer: a push leaves a store and a state, taking, raising and recovering a state, lending another one a store, a cut both; a lookup and a scan are lent the store to read alone
abbrev pub after : World → Answer → World
after w (pushed r) = world r.store r.answer.state
after w (handed_out r) = world w.store (state_after_take w.state r)
after w (raised_to r) = world w.store (state_after_raise w.state r)
after w (located r) = w
after w (looked_up r) = w
after w (scan_began r) = w
after w (stepped r) = w
after w (restored r) = world w.store (state_after_recovery w.state r)
after w (lent store) = world store w.state
after w (reopened store r) = after_cut w store r

-- one call, with the state that the call before left
unfoldable pub step : World → Call → World
step w c = after w (answer w c)

-- a history: the world after any calls, refused ones among them
unfoldable pub run : World → List Call → World
run w [] = w
run w (c ∷ cs) = run (step w c) cs

-- a call, and what it answered
pub record Said : Type 0 where
  pub call : Call
  pub reply : Answer

abbrev pub heard : World → Call → Said
heard w c = record { call = c; reply = answer w c }

-- what each call of the sequence answered
unfoldable pub said : World → List Call → List Said
said w [] = []
said w (c ∷ cs) = heard w c ∷ said (step w c) cs

-- ---- where a history begins

-- 11 "from the state that recovery gives on, if the log that is left is sound": of so many bytes of the store, with a stored ceiling
pub record Begun (w : World) : Type 0 where
  pub size : ℕ
  pub stored : ℕ
  pub excess : ℕ
  pub dropped : ℕ
  pub is : recover_of w.store size stored ≡ recovered w.state excess dropped
  pub sound : Sound (log_of w)

-- ---- cuts that spare the first bytes of the log

-- a cut falls at or above so many bytes
abbrev pub Spares : ℕ → Call → Type 0
Spares bytes (push ids ends d words) = Unit {0}
Spares bytes take_id = Unit {0}
Spares bytes (raise by) = Unit {0}
Spares bytes (find id) = Unit {0}
Spares bytes (lookup id out) = Unit {0}
Spares bytes (scan range) = Unit {0}
Spares bytes (step_on range cursor out) = Unit {0}
Spares bytes (recover stored) = Unit {0}
Spares bytes (lend rest) = Unit {0}
Spares bytes (cut_log n stored rest) = bytes ≤ n

-- and so does every cut of a sequence
abbrev pub AllSpare : ℕ → List Call → Type 0
AllSpare bytes [] = Unit {0}
AllSpare bytes (c ∷ cs) = Spares bytes c × AllSpare bytes cs

-- ---- settled ids

-- 11.10 "1 or more, at most last written, and below next"
pub record Settled (w : World) (id : ℕ) : Type 0 where
  pub some : 1 ≤ id
  pub most : id ≤ w.state.last
  pub below : id < w.state.next

-- 11.10 "last written is the id of the last entry stored": said by that entry
pub record SettledByStored (w : World) (id : ℕ) : Type 0 where
  pub some : 1 ≤ id
  pub page : ℕ
  pub last : Last (log_of w) page
  pub most : id ≤ id_at (log_of w) page
  pub below : id < w.state.next

-- the answer is a lookup's, with that standing and that output after it
pub record LooksUp (r : Answer) (s : Standing) (out : List ℕ) : Type 0 where
  pub look : WithOutput Looking
  pub is : r ≡ looked_up look
  pub stands : standing look.answer ≡ s
  pub leaves : look.out ≡ out

-- the answer is a search's, with that standing
pub record Locates (r : Answer) (s : Standing) : Type 0 where
  pub look : Looking
  pub is : r ≡ located look
  pub stands : standing look ≡ s

-- if the call looked for the id, with enough output, it gave this standing, and a lookup put the data d to its output's front, the rest unchanged
abbrev pub Gives : Call → Answer → ℕ → Standing → List ℕ → Type 0
Gives (push ids ends bytes words) r id s d = Unit {0}
Gives take_id r id s d = Unit {0}
Gives (raise by) r id s d = Unit {0}
Gives (find i) r id s d = i ≡ id → Locates r s
Gives (lookup i out) r id s d = i ≡ id → length d ≤ length out → LooksUp r s (overwritten out d)
Gives (scan range) r id s d = Unit {0}
Gives (step_on range cursor out) r id s d = Unit {0}
Gives (recover stored) r id s d = Unit {0}
Gives (lend rest) r id s d = Unit {0}
Gives (cut_log n stored rest) r id s d = Unit {0}

-- and so does every call that is made now
abbrev pub Answers : World → ℕ → Standing → List ℕ → Type 0
Answers w id s d = (c : Call) → Gives c (answer w c) id s d

-- 11.10 "It is found exactly if it is stored": found with the entry's position, data length and data; absent where no entry has the id
abbrev pub ExactlyStored : List ℕ → ℕ → Standing → List ℕ → Type 0
ExactlyStored log id (present position len) d = (entry : Stored log id position len) × (d ≡ data_at log entry.page len) × (length d ≡ len)
ExactlyStored log id (missing position) d = ((p : ℕ) → Start log p → id_at log p ≡ id → ⊥) × (d ≡ [])
ExactlyStored log id unsaid d = ⊥

-- the id is settled, every lookup of it gives this standing and this data, and that is found exactly if it is stored
pub record Keeps (w : World) (id : ℕ) (s : Standing) (d : List ℕ) : Type 0 where
  pub settled : Settled w id
  pub answers : Answers w id s d
  pub exact : ExactlyStored (log_of w) id s d

-- 11.10 "After a cut that recovery answers with 9": so many pages are left, and from the state that the caller makes up for them on the id keeps its answer
pub record KeepsFull (w : World) (n : ℕ) (rest : List ℕ) (id : ℕ) (s : Standing) (d : List ℕ) (bytes : ℕ) : Type 0 where
  pub left : ℕ
  pub is_left : Left (log_of w) (length (kept_of w n) / page_size) left
  pub keeps : (later : List Call) → AllSpare bytes later → Keeps (run (world (kept_of w n ++ rest) (state_of (left * page_size) top_id top_id top_id)) later) id s d

-- 11.10 "gives what the first one gave": that is chosen before any later call is; every later call keeps it, and every later lookup gave it,
-- 11.10 "as long as no cut falls below the length that the log had when the id was settled"
pub record KeepsFirst (w : World) (id : ℕ) : Type 0 where
  pub stands : Standing
  pub data_is : List ℕ
  pub kept : (later : List Call) → AllSpare w.state.length later → Keeps (run w later) id stands data_is
  pub gave : (later : List Call) → AllSpare w.state.length later → (x : Said) → Memᴰ x (said w later) → Gives x.call x.reply id stands data_is
  pub full : (later : List Call) → AllSpare w.state.length later → (n stored : ℕ) (rest : List ℕ) → w.state.length ≤ n
      → recover_of (kept_of (run w later) n ++ rest) (length (kept_of (run w later) n)) stored ≡ unrecovered 9 0 → id < top_id → KeepsFull (run w later) n rest id stands data_is w.state.length

-- ---- reading back

-- a push in a world
abbrev pub pushing : World → List ℕ → List ℕ → List ℕ → Push
pushing w ids ends bytes = record { store = w.store; state = w.state; ids = ids; ends = ends; bytes = bytes }

-- 11.9 "found by every later lookup with enough output, with its data and at one position, while its id is below next and no cut falls before the end of its pages"
pub record ReadsBack (w : World) (id : ℕ) (d : List ℕ) (end : ℕ) : Type 0 where
  pub position : ℕ
  pub reads : (later : List Call) → AllSpare end later → id < (run w later).state.next → Answers (run w later) id (present position (length d)) d
