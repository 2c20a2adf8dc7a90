-- For `machine_states.rt`: controllers and fetched commands after executions, register writes and power cycles.
use Rattle.std.specs.Prelude.{◌≡◌, ℕ, Bool, None}
use Rattle.nvme_spec.specs.Registers.{initial_registers}
use Rattle.nvme_machine.specs.declared.fetched.FetchedCommand.{FetchedCommand}
use Rattle.nvme_machine.specs.declared.seen.Executed.{Executed}
use Rattle.nvme_machine.specs.declared.seen.Executed.TheVariants.{Posted}
use Rattle.nvme_machine.specs.Controllers.{Controller, QueuePair, submission_at, completion_at}
use Rattle.nvme_machine.specs.Executing.{Setting, Finishes}
use Rattle.nvme_machine.specs.PowerCycles.{IsUnused}
use Rattle.nvme_machine.specs.Subsystems.{after_completion}

pub machine_finished_executions_posted : (tells : Bool) → (i : ℕ) → (t : FetchedCommand) → (p : QueuePair)
    → (before after : Setting) → (executed : Executed) → (x : Finishes tells i t p before executed after) → executed
    ≡ Posted x.execution.outcome
machine_finished_executions_posted tells i t p before after executed x = x.gives

pub machine_finished_executions_controller : (tells : Bool) → (i : ℕ) → (t : FetchedCommand) → (p : QueuePair)
    → (before after : Setting) → (executed : Executed) → (x : Finishes tells i t p before executed after)
    → after.controller ≡ after_completion i t p x.execution before.controller
machine_finished_executions_controller tells i t p before after executed x = x.controller

pub machine_finished_executions_world : (tells : Bool) → (i : ℕ) → (t : FetchedCommand) → (p : QueuePair)
    → (before after : Setting) → (executed : Executed) → (x : Finishes tells i t p before executed after)
    → after.world ≡ x.execution.left.world
machine_finished_executions_world tells i t p before after executed x = x.world

pub machine_finished_executions_device : (tells : Bool) → (i : ℕ) → (t : FetchedCommand) → (p : QueuePair)
    → (before after : Setting) → (executed : Executed) → (x : Finishes tells i t p before executed after)
    → after.device ≡ x.execution.left.device
machine_finished_executions_device tells i t p before after executed x = x.device

pub machine_unused_controllers_registers : (c : Controller) → IsUnused c → c.registers ≡ initial_registers
machine_unused_controllers_registers c x = x.registers

pub machine_unused_controllers_submission : (c : Controller) → IsUnused c → submission_at c 1 ≡ None
machine_unused_controllers_submission c x = x.submission 1

pub machine_unused_controllers_completion : (c : Controller) → IsUnused c → completion_at c 1 ≡ None
machine_unused_controllers_completion c x = x.completion 1
