-- A walk in rounds, over pages or over a batch: each round stops with what it came to, or goes on from somewhere else.

pub data Round (A B : Type 0) : Type 0 where
  stop : A → Round A B
  again : B → Round A B

-- a round that stops has the answer, and one that goes on leaves it to the rounds after it
abbrev pub follow : {A B : Type 0} → (B → A) → Round A B → A
follow rest (stop r) = r
follow rest (again w) = rest w
