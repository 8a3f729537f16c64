-- Rules 3, "Refusals", 1: which stores, lengths and cursors are good.
use Rattle.std.specs.Prelude.{ℕ, ◌%◌, ◌≤◌, ◌^◌, ◌≡◌, Bool, not, ◌||◌, List, ltb, eqb, length, take, Result, Ok, Err}
use Rattle.std.specs.Borrow.{Bor}
use Rattle.refusal.specs.Pick.{pick}
use Rattle.refusal.specs.declared.Refusal.{Refusal}
use Rattle.refusal.specs.declared.Refusal.TheVariants.{BadState}
use Rattle.page.specs.Size.{page_size}
use Rattle.catalog.specs.declared.state.State.{State}

-- 3.1 "the store is longer than 2^31 bytes, or length is above its size": all that recovery and the sound check refuse
unfoldable pub too_long : List ℕ → ℕ → Bool
too_long store n = ltb (2 ^ 31) (length store) || ltb (length store) n

-- 3.1 "except in recovery and the sound check, also if length is no multiple of 1,024"
unfoldable pub bad_state : List ℕ → ℕ → Bool
bad_state store n = too_long store n || not (eqb (n % page_size) 0)

-- 3.1 "in a step, also if the cursor is no such multiple, or above length"
unfoldable pub bad_cursor : ℕ → ℕ → Bool
bad_cursor n cursor = ltb n cursor || not (eqb (cursor % page_size) 0)

-- where recovery and the sound check do not refuse 1
pub record Fits (store : List ℕ) (n : ℕ) : Type 0 where
  pub small : length store ≤ 2 ^ 31
  pub inside : n ≤ length store

-- and where no other call refuses the state
pub record Good (store : List ℕ) (n : ℕ) : Type 0 where
  pub fits : Fits store n
  pub whole : n % page_size ≡ 0

-- 1.1 "the log is the first `length` bytes of it": those, or 1
unfoldable pub log_of : List ℕ → State → Result (List ℕ) Refusal
log_of store st = pick (bad_state store st.length) (Err BadState) (Ok (take st.length store))

-- what is lent, by its values
abbrev pub paper_bytes : Result (Bor (List ℕ)) Refusal → Result (List ℕ) Refusal
paper_bytes (Ok bytes) = Ok bytes.now
paper_bytes (Err r) = Err r
