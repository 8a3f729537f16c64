-- The numbers that stand for the answer of Rules 4, "Push".
use Rattle.std.specs.Prelude.{ℕ}
use Rattle.pushing.specs.Push.{Why, none, refused, Pushing}
use Rattle.awirbesh.specs.State.{state_numbers}
use Rattle.awirbesh.specs.declared.writing.PushedNumbers.{PushedNumbers}

-- the refusal's number; no refusal of a push names a page or a length
abbrev pub reason_number : Why → ℕ
reason_number none = 0
reason_number (refused number value) = number

-- 4.5 "The answer is the reason .. the count of entries written, after a refusal too; and the state"
abbrev pub pushed_numbers : Pushing → PushedNumbers
pushed_numbers a = record { number = reason_number a.reason; written = a.written; state = state_numbers a.state }
