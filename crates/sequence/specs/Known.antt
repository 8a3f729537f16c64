-- Rules 10, "Id sequence", 10.6: which ids a sequence and its words have as noted, whatever the words hold besides.
use Rattle.std.specs.Prelude.{ℕ, ◌-◌, ◌≤◌, ◌<◌, ◌≡◌, ◌⊎◌, List}
use Rattle.sequence.specs.Window.{bit_at}

-- 10.6 "An id below start counts as noted"; else one below after whose bit is set
abbrev pub Known : ℕ → ℕ → List ℕ → ℕ → Type 0
Known after start words id =
    (id < start) ⊎ ((start ≤ id) × (id < after) × (bit_at words (id - start) ≡ 1))
