-- The results of events, with and without the marks of an execution, for contracts that write marks to a caller's list.
use Rattle.nvme_spec.specs.declared.outcome.Marks.{Marks}
use Rattle.nvme_spec.specs.declared.outcome.Outcome.{Outcome}
use Rattle.nvme_spec.specs.Execution.{no_marks}
use Rattle.nvme_machine.specs.declared.bare.BareOutcome.{BareOutcome}
use Rattle.nvme_machine.specs.declared.bare.BareExecuted.{BareExecuted}
use Rattle.nvme_machine.specs.declared.bare.BareExecuted.TheVariants as executed
use Rattle.nvme_machine.specs.declared.bare.BareSeen.{BareSeen}
use Rattle.nvme_machine.specs.declared.bare.BareSeen.TheVariants as seen
use Rattle.nvme_machine.specs.declared.seen.Executed.{Executed}
use Rattle.nvme_machine.specs.declared.seen.Executed.TheVariants as whole_executed
use Rattle.nvme_machine.specs.declared.seen.Seen.{Seen}
use Rattle.nvme_machine.specs.declared.seen.Seen.TheVariants as whole

-- the outcome of an execution with its marks
abbrev pub outcome_with : Marks → BareOutcome → Outcome
outcome_with m o = record { status = o.status; dw0 = o.dw0; rule = o.rule; marks = m }

-- the result of an execution with its marks
abbrev pub executed_with : Marks → BareExecuted → Executed
executed_with m (executed.Posted o) = whole_executed.Posted (outcome_with m o)
executed_with m executed.NoSuch = whole_executed.NoSuch
executed_with m executed.CqFull = whole_executed.CqFull

-- the result of an event with its marks
abbrev pub seen_with : Marks → BareSeen → Seen
seen_with m seen.Stored = whole.Stored
seen_with m seen.Outside = whole.Outside
seen_with m seen.Wrote = whole.Wrote
seen_with m (seen.Value v) = whole.Value v
seen_with m (seen.Fetched f) = whole.Fetched f
seen_with m (seen.Executed x) = whole.Executed (executed_with m x)
seen_with m seen.Cycled = whole.Cycled
seen_with m seen.NoController = whole.NoController

-- the marks after an execution: its own if it posted a completion, else none
abbrev pub marks_by_executed : BareExecuted → Marks → Marks
marks_by_executed (executed.Posted o) m = m
marks_by_executed other m = no_marks

-- the marks of an event: only an execution has some
abbrev pub marks_by : BareSeen → Marks → Marks
marks_by (seen.Executed x) m = marks_by_executed x m
marks_by other m = no_marks

-- the result of an execution, or of an event, that marks nothing
abbrev pub executed_of : BareExecuted → Executed
executed_of x = executed_with no_marks x

abbrev pub seen_of : BareSeen → Seen
seen_of s = seen_with no_marks s
