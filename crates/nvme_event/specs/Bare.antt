-- The results of a fleet's events, with and without the marks of an execution, for contracts that write marks to a
-- caller's list.
use Rattle.nvme_spec.specs.declared.outcome.Marks.{Marks}
use Rattle.nvme_spec.specs.Execution.{no_marks}
use Rattle.nvme_machine.specs.Bare.{executed_with, marks_by_executed}
use Rattle.nvme_event.specs.declared.bare.BareFleetSeen.{BareFleetSeen}
use Rattle.nvme_event.specs.declared.bare.BareFleetSeen.TheVariants as bare
use Rattle.nvme_event.specs.declared.seen.FleetSeen.{FleetSeen}
use Rattle.nvme_event.specs.declared.seen.FleetSeen.TheVariants as seen

-- the result of an event with its marks
abbrev pub seen_with : Marks → BareFleetSeen → FleetSeen
seen_with m (bare.Up up) = seen.Up up
seen_with m (bare.Placed placed) = seen.Placed placed
seen_with m (bare.Rung rung) = seen.Rung rung
seen_with m (bare.Fetched fetched) = seen.Fetched fetched
seen_with m (bare.Executed executed) = seen.Executed (executed_with m executed)
seen_with m (bare.Polled polled) = seen.Polled polled
seen_with m bare.Reset = seen.Reset
seen_with m bare.Stored = seen.Stored
seen_with m bare.Outside = seen.Outside
seen_with m bare.Wrote = seen.Wrote
seen_with m bare.Cycled = seen.Cycled
seen_with m bare.NoController = seen.NoController
seen_with m bare.NoDriver = seen.NoDriver
seen_with m bare.NotRaw = seen.NotRaw

-- the marks after an event: those of an execution that posted a completion, else none
abbrev pub marks_by : BareFleetSeen → Marks → Marks
marks_by (bare.Executed executed) m = marks_by_executed executed m
marks_by other m = no_marks

-- the result of an event that marks nothing
abbrev pub seen_of : BareFleetSeen → FleetSeen
seen_of s = seen_with no_marks s
