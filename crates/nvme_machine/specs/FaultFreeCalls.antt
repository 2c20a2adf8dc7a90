-- The calls that events make without faults of a medium that reveals its content, as functions: those of the executions
-- among them, in order.
use Rattle.std.specs.Prelude.{◌==◌, ℕ, Bool, true, false, List, [], ◌∷◌, ◌++◌, Option, None, Some, slice_get}
use Rattle.nvme_spec.specs.Execution.{Scene}
use Rattle.nvme_spec.specs.FaultFreeCalls.{command_calls}
use Rattle.nvme_spec.specs.MediumCalls.{MediumCall}
use Rattle.nvme_machine.specs.declared.event.Event.{Event}
use Rattle.nvme_machine.specs.declared.event.Event.TheVariants.{Execute}
use Rattle.nvme_machine.specs.declared.fetched.FetchedCommand.{FetchedCommand}
use Rattle.nvme_machine.specs.Controllers.{Controller, QueuePair, open_pair}
use Rattle.nvme_machine.specs.FaultFree.{fault_free_step}
use Rattle.nvme_machine.specs.Subsystems.{Subsystem, controller_at, scene_of}

-- by whether the command came from the admin queue: such a command makes no call
abbrev pub calls_as : Bool → ℕ → FetchedCommand → Scene → List MediumCall
calls_as true k t s = []
calls_as false k t s = command_calls k t.entry t.marked s

-- its completion queue may be full
abbrev pub calls_over : Option QueuePair → ℕ → FetchedCommand → Scene → List MediumCall
calls_over None k t s = []
calls_over (Some p) k t s = calls_as (t.queue == 0) k t s

abbrev pub calls_one : Option FetchedCommand → Subsystem → ℕ → Controller → List MediumCall
calls_one None s k c = []
calls_one (Some t) s k c = calls_over (open_pair c t) k t (scene_of s c)

abbrev pub calls_at : Option Controller → Subsystem → ℕ → ℕ → List MediumCall
calls_at None s k i = []
calls_at (Some c) s k i = calls_one (slice_get c.fetched i) s k c

-- only executions make calls
abbrev pub event_calls : Subsystem → Event → List MediumCall
event_calls s (Execute k i) = calls_at (controller_at s k) s k i
event_calls s event = []

-- for a list of events
abbrev pub fault_free_calls : Subsystem → List Event → List MediumCall
fault_free_calls s [] = []
fault_free_calls s (event ∷ events) = event_calls s event ++ fault_free_calls (fault_free_step s event).left events
