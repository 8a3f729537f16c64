-- Rules 10, "Id sequence", 10.6: the 64 words of 64 bits, and so 4,096 ids from start on.
use Rattle.std.specs.Prelude.{ℕ, zero, suc, ◌+◌, ◌-◌, ◌/◌, ◌%◌, ◌^◌, Bool, List, [], ◌∷◌, ◌++◌, get_or, set, ltb, eqb}
use Rattle.refusal.specs.Pick.{pick}

-- bit k of a word
abbrev pub bit : ℕ → ℕ → ℕ
bit word k = word / 2 ^ k % 2

-- 10.6 "Bit k mod 64 of word k / 64"
abbrev pub bit_at : List ℕ → ℕ → ℕ
bit_at words k = bit (get_or words (k / 64) 0) (k % 64)

-- the word with bit k set
abbrev pub marked : ℕ → ℕ → ℕ
marked word k = pick (eqb (bit word k) 1) word (word + 2 ^ k)

-- the words with bit k set
abbrev pub marked_at : List ℕ → ℕ → List ℕ
marked_at words k = set words (k / 64) (marked (get_or words (k / 64) 0) (k % 64))

-- 10.4 "each is noted": the first n bits of a word are set
abbrev pub all_noted : ℕ → ℕ → Bool
all_noted word n = eqb (word % 2 ^ n) (2 ^ n - 1)

-- a word with its first n bits alone; it has 64
abbrev pub lowest : ℕ → ℕ → ℕ
lowest word n = pick (ltb n 64) (word % 2 ^ n) word

-- the first count words with the first n bits alone, and the others as they are
unfoldable pub only : ℕ → ℕ → List ℕ → List ℕ
only n zero words = words
only n (suc count) [] = []
only n (suc count) (word ∷ words) = lowest word n ∷ only (n - 64) count words

-- 10.7 "the words move down by one and a zero comes in last"
unfoldable pub shifted : List ℕ → List ℕ
shifted [] = []
shifted (word ∷ words) = words ++ (0 ∷ [])
