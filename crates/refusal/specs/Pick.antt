-- The choice between two answers that a test makes, for every definition that goes by tests on numbers.
use Rattle.std.specs.Prelude.{Bool, true, false}

abbrev pub pick : {A : Type 0} → Bool → A → A → A
pick true a b = a
pick false a b = b
