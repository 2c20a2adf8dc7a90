-- Steps and runs without faults of the medium, as functions.
use Rattle.std.specs.Prelude.{◌==◌, ℕ, if◌then◌else◌, List, [], ◌∷◌, Option, None, Some, slice_get}
use Rattle.nvme_spec.specs.declared.queues.Queues.{Queues}
use Rattle.nvme_spec.specs.declared.queues.QueueChange.TheVariants.{Keep}
use Rattle.nvme_spec.specs.Execution.{Scene}
use Rattle.nvme_spec.specs.FaultFree.{Execution, fault_free_execution}
use Rattle.nvme_spec.specs.AdminEffects.{admin_execution}
use Rattle.nvme_machine.specs.declared.event.Event.{Event}
use Rattle.nvme_machine.specs.declared.event.Event.TheVariants.{Store, Write32, Read32, Fetch, Execute, PowerCycle}
use Rattle.nvme_machine.specs.declared.fetched.FetchedCommand.{FetchedCommand}
use Rattle.nvme_machine.specs.declared.seen.Executed.TheVariants.{Posted, NoSuch, CqFull}
use Rattle.nvme_machine.specs.declared.seen.Seen.{Seen}
use Rattle.nvme_machine.specs.declared.seen.Seen.TheVariants.{Executed, Cycled, NoController}
use Rattle.nvme_machine.specs.Controllers.{
  Controller,
  QueuePair,
  Reaction,
  queues_of,
  after_store,
  wrote,
  has_read,
  after_fetch,
  open_pair,
}
use Rattle.nvme_machine.specs.CommandExecutions.{CommandExecution, admin_command_execution}
use Rattle.nvme_machine.specs.Subsystems.{
  Subsystem,
  controller_at,
  with_controller,
  scene_of,
  after_execution,
  after_power_cycle,
}

abbrev pub io_command_execution : Execution → CommandExecution
io_command_execution x = record { outcome = x.outcome; change = Keep; left = x.left }

unfoldable pub fault_free_command_execution : Queues → ℕ → FetchedCommand → Scene → CommandExecution
fault_free_command_execution queues cntlid t s =
    if t.queue == 0
    then admin_command_execution s (admin_execution s.world queues cntlid t.entry s.window)
    else io_command_execution (fault_free_execution cntlid t.entry t.marked s)

-- The result of an event, and the subsystem after it.
pub record Aftermath : Type 0 where
  pub seen : Seen
  pub left : Subsystem

abbrev pub aftermath : Seen → Subsystem → Aftermath
aftermath what s = record { seen = what; left = s }

abbrev pub reacting : Option Controller → Subsystem → ℕ → (Controller → Reaction) → Aftermath
reacting None s k f = aftermath NoController s
reacting (Some c) s k f = aftermath (f c).seen (with_controller s k (f c).controller)

abbrev pub answered : Subsystem → ℕ → Controller → ℕ → FetchedCommand → QueuePair → CommandExecution → Aftermath
answered s k c i t p a = aftermath (Executed (Posted a.outcome)) (after_execution s k c i t p a)

abbrev pub executing_over : Option QueuePair → Subsystem → ℕ → Controller → ℕ → FetchedCommand → Aftermath
executing_over None s k c i t = aftermath (Executed CqFull) s
executing_over (Some p) s k c i t = answered s k c i t p (fault_free_command_execution (queues_of c) k t (scene_of s c))

abbrev pub executing_one : Option FetchedCommand → Subsystem → ℕ → Controller → ℕ → Aftermath
executing_one None s k c i = aftermath (Executed NoSuch) s
executing_one (Some t) s k c i = executing_over (open_pair c t) s k c i t

abbrev pub executing : Option Controller → Subsystem → ℕ → ℕ → Aftermath
executing None s k i = aftermath NoController s
executing (Some c) s k i = executing_one (slice_get c.fetched i) s k c i

abbrev pub fault_free_step : Subsystem → Event → Aftermath
fault_free_step s (Store k address bytes) = reacting (controller_at s k) s k (after_store address bytes.now)
fault_free_step s (Write32 k offset v) = reacting (controller_at s k) s k (wrote offset v)
fault_free_step s (Read32 k offset) = reacting (controller_at s k) s k (has_read offset)
fault_free_step s (Fetch k q) = reacting (controller_at s k) s k (after_fetch q)
fault_free_step s (Execute k i) = executing (controller_at s k) s k i
fault_free_step s PowerCycle = aftermath Cycled (after_power_cycle s)

-- the results of the events, in order
abbrev pub fault_free_seen : Subsystem → List Event → List Seen
fault_free_seen s [] = []
fault_free_seen s (event ∷ events) = (fault_free_step s event).seen ∷ fault_free_seen
    (fault_free_step s event).left events

-- the subsystem after them
abbrev pub fault_free_left : Subsystem → List Event → Subsystem
fault_free_left s [] = s
fault_free_left s (event ∷ events) = fault_free_left (fault_free_step s event).left events
