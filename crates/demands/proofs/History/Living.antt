-- What holds at every point of a history, and a log that grew. Assumes nothing.
use mathlib.Core.Path.{◌≡◌, sym, ◌∙◌}
use mathlib.Core.List.{List, [], ◌++◌, append_assoc, append-nil}
use Prim.Native.Nat.{ℕ, ◌≤◌}
use native.Mathlib.Omega.{arith}
use lib.ListN.{length, length-append}
use Rattle.demands.specs.Sound.{SoundStore, LastStored}
use Rattle.demands.specs.History.{World, log_of}
use Rattle.demands.proofs.Last.{last_stored_rises}

-- ---- a log that grew

pub record Grows (log later : List ℕ) : Type 0 where
  pub more : List ℕ
  pub is : later ≡ log ++ more

grows_none : (log : List ℕ) → Grows log log
grows_none log = record { more = []; is = sym (append-nil log) }

pub grows_then : {a b c : List ℕ} → Grows a b → Grows b c → Grows a c
grows_then {a} g h = record { more = g.more ++ h.more; is = h.is ∙ rw g.is (append_assoc a g.more h.more) }

pub grows_size : {a b : List ℕ} → Grows a b → length a ≤ length b
grows_size {a} g = rw g.is (omega (arith, length-append a g.more))

-- ---- what holds in a history that began with a recovered state

pub record Lives (w : World) : Type 0 where
  pub good : SoundStore w.store w.state.length
  -- last written is the id of the last entry stored
  pub last : LastStored (log_of w) w.state.last

-- and its log has these bytes as its front: those of an earlier point, which no cut has reached
pub record Over (base : List ℕ) (w : World) : Type 0 where
  pub lives : Lives w
  pub grows : Grows base (log_of w)

pub over_none : (w : World) → Lives w → Over (log_of w) w
over_none w i = record { lives = i; grows = grows_none (log_of w) }

-- last written is at or above that of the world over whose log it stands
pub over_rises : (v : World) → Lives v → {w : World} → Over (log_of v) w → v.state.last ≤ w.state.last
over_rises v i o = last_stored_rises (log_of v) o.grows.more (rw o.grows.is at o.lives.good.sound) _ _ i.last (rw o.grows.is at o.lives.last)
