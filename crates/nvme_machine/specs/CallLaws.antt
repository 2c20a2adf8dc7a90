-- Statements of the law `calls_leave_the_content`: every event and every run has calls; over a medium that reveals its
-- content, without faults, they are one list, which leaves the content of the run; and a Flush that is answered
-- Successful Completion was one flush.
use Rattle.std.specs.Prelude.{
  ◌≡◌,
  ◌≢◌,
  ◌<◌,
  ◌-◌,
  ◌^◌,
  ◌==◌,
  ℕ,
  Bool,
  true,
  false,
  List,
  [],
  ◌∷◌,
  Some,
  Ok,
  Err,
  slice_get,
}
use Rattle.nvme_wire.specs.Submission.{opcode}
use Rattle.nvme_spec.specs.declared.command.Command.TheVariants.{Flush}
use Rattle.nvme_spec.specs.declared.outcome.Outcome.{Outcome}
use Rattle.nvme_spec.specs.declared.verdict.Denial.{Denial}
use Rattle.nvme_spec.specs.Commands.{opcode_of}
use Rattle.nvme_spec.specs.FaultFreeCalls.{content_step}
use Rattle.nvme_spec.specs.Layout.{IsLaidOut}
use Rattle.nvme_spec.specs.MediumCalls.{MediumCall, Flushes, Calls}
use Rattle.nvme_spec.specs.Statuses as status
use Rattle.nvme_machine.specs.declared.event.Event.{Event}
use Rattle.nvme_machine.specs.declared.event.Event.TheVariants.{Execute}
use Rattle.nvme_machine.specs.declared.fetched.FetchedCommand.{FetchedCommand}
use Rattle.nvme_machine.specs.declared.seen.Executed.TheVariants.{Posted}
use Rattle.nvme_machine.specs.declared.seen.Seen.{Seen}
use Rattle.nvme_machine.specs.declared.seen.Seen.TheVariants.{Executed}
use Rattle.nvme_machine.specs.CommandExecutions.{judgement}
use Rattle.nvme_machine.specs.Controllers.{Controller, QueuePair, queues_of}
use Rattle.nvme_machine.specs.EventCalls.{AreCallsOfStep, AreCallsOfRun}
use Rattle.nvme_machine.specs.FaultFree.{fault_free_seen, fault_free_left}
use Rattle.nvme_machine.specs.FaultFreeCalls.{event_calls, fault_free_calls}
use Rattle.nvme_machine.specs.Runs.{Waits}
use Rattle.nvme_machine.specs.Subsystems.{Subsystem, Step, Run, controller_at, scene_of}

-- For any behaviour of the medium, and whether or not it reveals its content, each step and each run has calls.
abbrev pub StepsHaveCalls : Type 0
StepsHaveCalls =
    (tells : Bool) → (old new : Subsystem) → (event : Event) → (seen : Seen) → Step tells old event seen new
    → (calls : List MediumCall) × AreCallsOfStep tells old event seen new calls

abbrev pub RunsHaveCalls : Type 0
RunsHaveCalls =
    (tells : Bool) → (old new : Subsystem) → (events : List Event) → (seen : List Seen)
    → Run tells old events seen new → (calls : List MediumCall) × AreCallsOfRun tells old events seen new calls

-- Over a medium that reveals its content and has no faults, a step has only one list of calls, for any content.
abbrev pub StepCallsAreUnique : Type 0
StepCallsAreUnique =
    (tells : Bool) → (old new other : Subsystem) → (event : Event) → (seen others : Seen)
    → (calls these : List MediumCall) → (content left right : List ℕ)
    → AreCallsOfStep tells old event seen new calls → AreCallsOfStep tells old event others other these
    → Calls content_step content calls left → Calls content_step content these right → these ≡ calls

-- So has a run without a fault.
abbrev pub RunCallsAreUnique : Type 0
RunCallsAreUnique =
    (old new other : Subsystem) → (events : List Event) → (seen others : List Seen) → (calls these : List MediumCall)
    → (content left right : List ℕ)
    → AreCallsOfRun true old events seen new calls → AreCallsOfRun true old events others other these
    → Calls content_step content calls left → Calls content_step content these right
    → new.device.failures ≡ old.device.failures → other.device.failures ≡ old.device.failures
    → old.device.failures < 2 ^ 64 - 1 → these ≡ calls

-- Over the content of the subsystem they are those that the functions compute, and leave the content of the run.
abbrev pub StepCallsAreComputed : Type 0
StepCallsAreComputed =
    (tells : Bool) → (old new : Subsystem) → (event : Event) → (seen : Seen) → (calls : List MediumCall)
    → (left : List ℕ) → AreCallsOfStep tells old event seen new calls
    → Calls content_step old.device.content calls left → calls ≡ event_calls old event

abbrev pub RunCallsAreComputed : Type 0
RunCallsAreComputed =
    (old new : Subsystem) → (events : List Event) → (seen : List Seen) → (calls : List MediumCall) → (left : List ℕ)
    → IsLaidOut old.world old.device.content → AreCallsOfRun true old events seen new calls
    → Calls content_step old.device.content calls left
    → new.device.failures ≡ old.device.failures → old.device.failures < 2 ^ 64 - 1
    → (calls ≡ fault_free_calls old events) × (left ≡ new.device.content)

-- And they exist: the calls of the one run without a fault, which are possible on such a medium.
abbrev pub RunCallsExist : Type 0
RunCallsExist =
    (old : Subsystem) → (events : List Event) → IsLaidOut old.world old.device.content
    → AreCallsOfRun true old events (fault_free_seen old events) (fault_free_left old events)
    (fault_free_calls old events)
    × Calls content_step old.device.content (fault_free_calls old events) (fault_free_left old events).device.content

-- A command that a rule denies, of any queue, is never answered Successful Completion.
abbrev pub DeniedIsNoSuccess : Type 0
DeniedIsNoSuccess =
    (tells : Bool) → (old new : Subsystem) → (k i : ℕ) → (c : Controller) → (t : FetchedCommand) → (p : QueuePair)
    → (denial : Denial) → (outcome : Outcome)
    → Step tells old (Execute k i) (Executed (Posted outcome)) new → Waits old k i c t p
    → judgement (queues_of c) k t (scene_of old c) ≡ Err denial → outcome.status ≢ status.successful_completion

-- The i-th command of controller k is a Flush of an I/O queue.
pub record IsFlushAt (s : Subsystem) (k i : ℕ) : Type 0 where
  pub controller : Controller
  pub command : FetchedCommand
  pub at : controller_at s k ≡ Some controller
  pub found : slice_get controller.fetched i ≡ Some command
  pub io : (command.queue == 0) ≡ false
  pub is : opcode command.entry ≡ opcode_of Flush

-- A Flush that is answered Successful Completion has made one flush of the medium, which succeeded, and no other call.
abbrev pub FlushedIsOneFlush : Type 0
FlushedIsOneFlush =
    (tells : Bool) → (old new : Subsystem) → (k i : ℕ) → (outcome : Outcome) → (calls : List MediumCall)
    → AreCallsOfStep tells old (Execute k i) (Executed (Posted outcome)) new calls → IsFlushAt old k i
    → outcome.status ≡ status.successful_completion → calls ≡ Flushes (Ok tt) ∷ []
