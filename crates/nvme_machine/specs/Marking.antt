-- Statements of the laws about the fetched commands of a preempted host (Base Specification: Reservation Acquire
-- command, Preempt and Abort).
use Rattle.std.specs.Prelude.{◌≡◌, ℕ, ◌==◌, Bool, true, false, Some, Ok, slice_get}
use Rattle.nvme_wire.specs.Submission.{opcode}
use Rattle.nvme_spec.specs.declared.command.Command.TheVariants.{ReservationAcquire}
use Rattle.nvme_spec.specs.Commands.{command_of, action}
use Rattle.nvme_spec.specs.Statuses as status
use Rattle.nvme_spec.specs.World.{host_of}
use Rattle.nvme_spec.specs.IoData.{reservation_outcome, data_of}
use Rattle.nvme_spec.specs.Execution.{removed_by, denial_outcome}
use Rattle.nvme_machine.specs.declared.event.Event.TheVariants.{Execute}
use Rattle.nvme_machine.specs.declared.fetched.FetchedCommand.{FetchedCommand}
use Rattle.nvme_machine.specs.declared.seen.Executed.TheVariants.{Posted}
use Rattle.nvme_machine.specs.declared.seen.Seen.{Seen}
use Rattle.nvme_machine.specs.declared.seen.Seen.TheVariants.{Executed}
use Rattle.nvme_machine.specs.Controllers.{Controller, QueuePair, names, queues_of, after_posting}
use Rattle.nvme_machine.specs.CommandExecutions.{judgement}
use Rattle.nvme_machine.specs.Subsystems.{Subsystem, Step, controller_at, with_controller, scene_of, is_host_among}
use Rattle.nvme_machine.specs.Runs.{Waits}

-- Any marked I/O command is answered Command Aborted due to Preempt and Abort, by the first rule. It changes only its
-- completion entry, the counts of its completion queue and its list.
abbrev pub MarkedIsAborted : Type 0
MarkedIsAborted =
    (tells : Bool) → (old new : Subsystem) → (k i : ℕ) → (c : Controller) → (t : FetchedCommand) → (p : QueuePair)
    → (seen : Seen)
    → Step tells old (Execute k i) seen new → Waits old k i c t p
    → t.marked ≡ true → (t.queue == 0) ≡ false
    → (seen ≡ Executed (Posted (denial_outcome 1 status.command_aborted_due_to_preempt_and_abort)))
    × (new ≡ with_controller old k (after_posting i t p status.command_aborted_due_to_preempt_and_abort 0 c))

-- every fetched I/O command of a controller on a namespace is marked
abbrev pub AllMarked : ℕ → Controller → Type 0
AllMarked n c = (i : ℕ) → (t : FetchedCommand) → slice_get c.fetched i ≡ Some t → names n t ≡ true → t.marked ≡ true

-- A Preempt and Abort that is not denied marks all commands on the namespace that a controller of a removed host has
-- fetched.
abbrev pub PreemptedCommandsAreMarked : Type 0
PreemptedCommandsAreMarked =
    (tells : Bool) → (old new : Subsystem) → (k i n : ℕ) → (c : Controller) → (t : FetchedCommand) → (p : QueuePair)
    → (seen : Seen)
    → Step tells old (Execute k i) seen new → Waits old k i c t p
    → names n t ≡ true → command_of (opcode t.entry) ≡ Some ReservationAcquire → action t.entry ≡ 2
    → judgement (queues_of c) k t (scene_of old c) ≡ Ok tt
    → (other : ℕ) → (d : Controller) → controller_at new other ≡ Some d
    → is_host_among (removed_by (reservation_outcome old.world k t.entry (data_of c.window t.entry)))
    (host_of new.world other) ≡ true
    → AllMarked n d
