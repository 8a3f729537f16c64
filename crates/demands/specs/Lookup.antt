-- Rules 11, "What is promised", 11.5: the right answer of a lookup on a sound log.
use Rattle.std.specs.Prelude.{ℕ, ◌*◌, ◌≤◌, ◌<◌, ◌≡◌, List, length}
use Rattle.page.specs.Size.{page_size, id_size, page_count}
use Rattle.page.specs.Entry.{length_at, after_at}
use Rattle.page.specs.Data.{copied}
use Rattle.catalog.specs.Round.{stop, again}
use Rattle.catalog.specs.Output.{WithOutput}
use Rattle.catalog.specs.Lookup.{Looking, found, absent, refused, Window, round_from}
use Rattle.demands.specs.Sound.{Stored, Missing}

-- where an id stands by an answer: found or absent, by position and data length; a refusal does not say
pub data Standing : Type 0 where
  present : (position len : ℕ) → Standing
  missing : (position : ℕ) → Standing
  unsaid : Standing

abbrev pub standing : Looking → Standing
standing (found position len) = present position len
standing (absent position) = missing position
standing (refused number value) = unsaid

-- 11.5 "finds it if it is stored .. and only then; else it is absent at the first entry with a greater id, or at length"
abbrev pub RightStanding : List ℕ → ℕ → Standing → Type 0
RightStanding log id (present position len) = Stored log id position len
RightStanding log id (missing position) = Missing log id position
RightStanding log id unsaid = ⊥

-- 11.5 "with enough output": it holds the data of the entry with that id
abbrev pub Room : List ℕ → ℕ → List ℕ → Type 0
Room log id out = (position len : ℕ) → Stored log id position len → len ≤ length out

-- a right answer, and after it the output: 8.8 "the data is put to its front and the rest of it stays"
abbrev pub RightOutput : List ℕ → ℕ → List ℕ → Standing → List ℕ → Type 0
RightOutput log id out (present position len) after = (entry : Stored log id position len) × (after ≡ copied log entry.page len out)
RightOutput log id out (missing position) after = Missing log id position × (after ≡ out)
RightOutput log id out unsaid after = ⊥

-- of a lookup's answer and output
abbrev pub RightLookup : List ℕ → ℕ → List ℕ → WithOutput Looking → Type 0
RightLookup log id out r = RightOutput log id out (standing r.answer) r.out

-- ---- on any log

-- 8.5 "what is found is a whole entry"
pub record WholeStored (log : List ℕ) (id position len : ℕ) : Type 0 where
  pub stored : Stored log id position len
  pub long : id_size ≤ length_at log stored.page
  pub within : after_at log stored.page ≤ page_count log

-- the position is a page's, or the log's end
pub record PageOrEnd (log : List ℕ) (position : ℕ) : Type 0 where
  pub page : ℕ
  pub at_page : position ≡ page * page_size
  pub inside : page ≤ page_count log

-- what an answer says of any log: found, a whole entry with that id; absent, at a page or at the end
abbrev pub Placed : List ℕ → ℕ → Looking → Type 0
Placed log id (found position len) = WholeStored log id position len
Placed log id (absent position) = PageOrEnd log position
Placed log id (refused number value) = Unit {0}

-- ---- any guess

-- 11.5 "Whatever pages of their windows the rounds guess": the rounds from a window on
pub data AnyGuess (log : List ℕ) (id : ℕ) : Window → Looking → Type 0 where
  emptied : (w : Window) → w.hi ≤ w.lo → AnyGuess log id w (absent (w.hi * page_size))
  stops : (w : Window) (g : ℕ) (r : Looking) → w.lo ≤ g → g < w.hi → round_from log id w g ≡ stop r → AnyGuess log id w r
  narrows : (w v : Window) (g : ℕ) (r : Looking) → w.lo ≤ g → g < w.hi → round_from log id w g ≡ again v → AnyGuess log id v r → AnyGuess log id w r
