-- Statements of laws about every step and every run.
use Rattle.std.specs.Prelude.{
  ◌≡◌,
  ◌≢◌,
  ◌⊎◌,
  ◌<◌,
  ◌≤◌,
  ◌-◌,
  ◌^◌,
  ◌==◌,
  ℕ,
  Bool,
  true,
  false,
  List,
  Option,
  Some,
  Err,
  option_map,
  slice_get,
}
use Rattle.nvme_spec.specs.declared.outcome.Outcome.{Outcome}
use Rattle.nvme_spec.specs.declared.queues.QueueChange.TheVariants.{Keep, DropSq}
use Rattle.nvme_spec.specs.declared.registers.RegEffect.{RegEffect}
use Rattle.nvme_spec.specs.declared.registers.RegEffect.TheVariants.{Nothing, Enable, Disable, Shutdown, SqTail, CqHead}
use Rattle.nvme_spec.specs.declared.verdict.Denial.{Denial}
use Rattle.nvme_spec.specs.declared.verdict.Plan.{Plan}
use Rattle.nvme_spec.specs.declared.verdict.Verdict.TheVariants.{Allowed}
use Rattle.nvme_spec.specs.World.{World, host_of}
use Rattle.nvme_spec.specs.Registers.{after_write}
use Rattle.nvme_spec.specs.IoData.{io_verdict}
use Rattle.nvme_spec.specs.Execution.{Scene, IsPerformed, denial_outcome}
use Rattle.nvme_spec.specs.Layout.{IsLaidOut}
use Rattle.nvme_spec.specs.AdminEffects.{admin_execution}
use Rattle.nvme_machine.specs.declared.event.Event.{Event}
use Rattle.nvme_machine.specs.declared.event.Event.TheVariants.{Store, Write32, Read32, Fetch, Execute, PowerCycle}
use Rattle.nvme_machine.specs.declared.fetched.FetchedCommand.{FetchedCommand}
use Rattle.nvme_machine.specs.declared.seen.Executed.TheVariants.{Posted}
use Rattle.nvme_machine.specs.declared.seen.Seen.{Seen}
use Rattle.nvme_machine.specs.declared.seen.Seen.TheVariants.{Executed}
use Rattle.nvme_machine.specs.Controllers.{
  Controller,
  QueuePair,
  queues_of,
  open_pair,
  after_posting,
  with_marks,
  power_cycled,
}
use Rattle.nvme_machine.specs.CommandExecutions.{judgement}
use Rattle.nvme_machine.specs.Subsystems.{
  Subsystem,
  Step,
  Run,
  controller_at,
  controller_of,
  with_controller,
  scene_of,
  is_host_among,
  after_execution,
}
use Rattle.nvme_machine.specs.FaultFree.{fault_free_seen, fault_free_left}

-- the failure count never falls
abbrev pub FailuresNeverFall : Type 0
FailuresNeverFall =
    (tells : Bool) → (old new : Subsystem) → (events : List Event) → (seen : List Seen)
    → Run tells old events seen new → old.device.failures ≤ new.device.failures

-- From each state whose namespaces are on its medium, each list of events has a run without a fault.
abbrev pub RunExists : Type 0
RunExists =
    (old : Subsystem) → (events : List Event) → IsLaidOut old.world old.device.content
    → Run true old events (fault_free_seen old events) (fault_free_left old events)
    × ((fault_free_left old events).device.failures ≡ old.device.failures)

-- And that is the only run without a fault: its results and its last state are determined.
abbrev pub RunIsUnique : Type 0
RunIsUnique =
    (old new : Subsystem) → (events : List Event) → (seen : List Seen) → Run true old events seen new
    → new.device.failures ≡ old.device.failures → old.device.failures < 2 ^ 64 - 1
    → (seen ≡ fault_free_seen old events) × (new ≡ fault_free_left old events)

-- The i-th command of controller k, whose completion can be posted.
pub record Waits (s : Subsystem) (k i : ℕ) (c : Controller) (t : FetchedCommand) (p : QueuePair) : Type 0 where
  pub at : controller_at s k ≡ Some c
  pub found : slice_get c.fetched i ≡ Some t
  pub room : open_pair c t ≡ Some p

-- A command that a rule denies is answered with the status of the first such rule, and changes only its completion
-- entry, the counts of its completion queue and its list.
abbrev pub DeniedChangesItsEntryAlone : Type 0
DeniedChangesItsEntryAlone =
    (tells : Bool) → (old new : Subsystem) → (k i : ℕ) → (c : Controller) → (t : FetchedCommand) → (p : QueuePair)
    → (denial : Denial) → (seen : Seen)
    → Step tells old (Execute k i) seen new → Waits old k i c t p
    → judgement (queues_of c) k t (scene_of old c) ≡ Err denial
    → (seen ≡ Executed (Posted (denial_outcome denial.rule denial.status)))
    × (new ≡ with_controller old k (after_posting i t p denial.status 0 c))

-- An I/O command that all rules let pass, in the world of its execution, has its effect there, and only then is its
-- completion posted.
pub record DoesItsEffect (tells : Bool) (plan : Plan) (old new : Subsystem) (k i : ℕ) (c : Controller)
    (t : FetchedCommand) (p : QueuePair) (seen : Seen) : Type 0 where
  pub outcome : Outcome
  pub left : Scene
  pub performed : IsPerformed tells plan.kind k t.entry (scene_of old c) left outcome
  pub gives : seen ≡ Executed (Posted outcome)
  pub leaves : new ≡ after_execution old k c i t p (record { outcome = outcome; change = Keep; left = left })

abbrev pub AllowedDoesItsEffect : Type 0
AllowedDoesItsEffect =
    (tells : Bool) → (old new : Subsystem) → (k i : ℕ) → (c : Controller) → (t : FetchedCommand) → (p : QueuePair)
    → (plan : Plan) → (seen : Seen)
    → Step tells old (Execute k i) seen new → Waits old k i c t p → (t.queue == 0) ≡ false
    → io_verdict old.world k t.entry t.marked c.window ≡ Allowed plan
    → DoesItsEffect tells plan old new k i c t p seen

-- its fetched commands on a namespace are marked, since the event removed its host's registration there
pub record IsMarkedBy (w : World) (seen : Seen) (other : ℕ) (old new : Option Controller) : Type 0 where
  pub outcome : Outcome
  pub gives : seen ≡ Executed (Posted outcome)
  pub removed : is_host_among outcome.marks.hosts.items (host_of w other) ≡ true
  pub marked : new ≡ option_map (with_marks outcome.marks.nsid) old

-- An event on one controller changes nothing of the others except marks, and a power cycle resets them all. So no event
-- changes another controller's window.
abbrev pub OthersChangeInMarksAlone : Type 0
OthersChangeInMarksAlone =
    (tells : Bool) → (old new : Subsystem) → (event : Event) → (seen : Seen) → Step tells old event seen new
    → (other : ℕ) → other ≢ controller_of event
    → (controller_at new other ≡ controller_at old other)
    ⊎ IsMarkedBy new.world seen other (controller_at old other) (controller_at new other)
    ⊎ ((event ≡ PowerCycle) × (controller_at new other ≡ option_map power_cycled (controller_at old other)))

-- the same command, which keeps its mark, or gets one
pub record IsStill (t u : FetchedCommand) : Type 0 where
  pub entry : u.entry ≡ t.entry
  pub queue : u.queue ≡ t.queue
  pub marked : t.marked ≡ true → u.marked ≡ true

-- a command is somewhere in the list of a controller
pub record StandsIn (t : FetchedCommand) (d : Controller) : Type 0 where
  pub place : ℕ
  pub found_as : FetchedCommand
  pub found : slice_get d.fetched place ≡ Some found_as
  pub still : IsStill t found_as

-- the i-th command of a controller deletes a submission queue
pub record Deletes (s : Scene) (c : Controller) (k i qid : ℕ) : Type 0 where
  pub command : FetchedCommand
  pub found : slice_get c.fetched i ≡ Some command
  pub is_admin : (command.queue == 0) ≡ true
  pub deletes : (admin_execution s.world (queues_of c) k command.entry s.window).change ≡ DropSq qid

-- a register write resets the controller, or enables it
abbrev pub IsReset : RegEffect → Type 0
IsReset Nothing = ⊥
IsReset Enable = Unit {0}
IsReset Disable = Unit {0}
IsReset Shutdown = ⊥
IsReset (SqTail q v) = ⊥
IsReset (CqHead q v) = ⊥

-- an event removes the m-th command of controller j from its list: the command is executed, its queue is deleted, the
-- controller is reset, or power is lost
abbrev pub TakesOut : Subsystem → Controller → ℕ → ℕ → FetchedCommand → Event → Type 0
TakesOut old c j m t (Execute k i) = (k ≡ j) × ((i ≡ m) ⊎ Deletes (scene_of old c) c k i t.queue)
TakesOut old c j m t (Write32 k offset v) = (k ≡ j) × IsReset (after_write c.registers offset v).effect
TakesOut old c j m t (Store k address bytes) = ⊥
TakesOut old c j m t (Read32 k offset) = ⊥
TakesOut old c j m t (Fetch k q) = ⊥
TakesOut old c j m t PowerCycle = Unit {0}

-- A fetched command leaves the list only by its execution, the deletion of its queue, a reset or a power cycle, and
-- keeps its mark.
abbrev pub FetchedStays : Type 0
FetchedStays =
    (tells : Bool) → (old new : Subsystem) → (event : Event) → (seen : Seen) → Step tells old event seen new
    → (j m : ℕ) → (c : Controller) → (t : FetchedCommand) → controller_at old j ≡ Some c
    → slice_get c.fetched m ≡ Some t
    → ((d : Controller) × (controller_at new j ≡ Some d) × StandsIn t d) ⊎ TakesOut old c j m t event
