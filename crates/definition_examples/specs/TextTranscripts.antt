-- The outcome of a command and the answers to requests, for worked examples of transcripts.
use Rattle.nvme_spec.specs.Execution.{no_marks}
use Rattle.nvme_spec.specs.declared.outcome.Outcome.{Outcome}
use Rattle.nvme_driver.specs.declared.answer.Answer.{Answer}
use Rattle.nvme_driver.specs.declared.answer.Answer.TheVariants.{Done, Aborted}

-- LBA Out of Range, by rule 7
abbrev pub denied_read : Outcome
denied_read = record { status = record { sct = 0; sc = 0x80 }; dw0 = 0; rule = 7; marks = no_marks }

-- ticket 5, executed with two bytes of data
abbrev pub answered_read : Answer
answered_read = Done (record { 0 = 5 }) (record { sct = 0; sc = 0 }) 0x10 2

-- ticket 5, not answered before a reset
abbrev pub aborted_read : Answer
aborted_read = Aborted (record { 0 = 5 })
