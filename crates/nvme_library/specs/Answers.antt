-- The result of an event for C.
use Rattle.std.specs.Prelude.{ℕ}
use Rattle.nvme_machine.specs.declared.bare.BareOutcome.{BareOutcome}
use Rattle.nvme_machine.specs.declared.bare.BareExecuted.TheVariants.{Posted, NoSuch, CqFull}
use Rattle.nvme_machine.specs.declared.bare.BareSeen.{BareSeen}
use Rattle.nvme_machine.specs.declared.bare.BareSeen.TheVariants.{
  Stored,
  Outside,
  Wrote,
  Value,
  Fetched,
  Executed,
  Cycled,
  NoController,
}
use Rattle.nvme_machine.specs.declared.seen.Fetched.TheVariants.{Took, Idle}
use Rattle.nvme_library.specs.declared.answer.Answer.{Answer}

-- a code without values
abbrev pub plain : ℕ → Answer
plain what = record { what = what; value = 0; sct = 0; sc = 0; rule = 0 }

-- the value of a register
abbrev pub value_answer : ℕ → Answer
value_answer v = record (plain 3) { value = v }

-- a completion, and which rule denied its command
abbrev pub posted : BareOutcome → Answer
posted o = record { what = 6; value = o.dw0; sct = o.status.sct; sc = o.status.sc; rule = o.rule }

-- the result of an event as an answer
abbrev pub answer_of : BareSeen → Answer
answer_of Stored = plain 1
answer_of Wrote = plain 2
answer_of (Value v) = value_answer v
answer_of (Fetched Took) = plain 4
answer_of (Fetched Idle) = plain 5
answer_of (Executed (Posted o)) = posted o
answer_of (Executed NoSuch) = plain 7
answer_of (Executed CqFull) = plain 8
answer_of Cycled = plain 9
answer_of NoController = plain 17
answer_of Outside = plain 18

-- no subsystem is open
abbrev pub closed : Answer
closed = plain 16
