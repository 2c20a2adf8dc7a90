-- Statements of laws on the calls of the medium that the events of a fleet make: each step and each run of both layers
-- has calls; over a medium that reveals its content, without faults, they are one list; and a Flush that is answered
-- Successful Completion was one flush.
use Rattle.std.specs.Prelude.{◌≡◌, ◌<◌, ◌-◌, ◌^◌, ℕ, Bool, true, List, [], ◌∷◌, Ok}
use Rattle.nvme_spec.specs.declared.outcome.Outcome.{Outcome}
use Rattle.nvme_spec.specs.FaultFreeCalls.{content_step}
use Rattle.nvme_spec.specs.MediumCalls.{MediumCall, Flushes, Calls}
use Rattle.nvme_spec.specs.Statuses as status
use Rattle.nvme_machine.specs.declared.seen.Executed.TheVariants.{Posted}
use Rattle.nvme_machine.specs.CallLaws.{IsFlushAt}
use Rattle.nvme_event.specs.declared.event.FleetEvent.{FleetEvent}
use Rattle.nvme_event.specs.declared.event.FleetEvent.TheVariants.{Execute}
use Rattle.nvme_event.specs.declared.seen.FleetSeen.TheVariants.{Executed}
use Rattle.nvme_event.specs.Replies.{Reply}
use Rattle.nvme_fleet.specs.FleetStates.{Layers}
use Rattle.nvme_fleet.specs.LayerCalls.{AreCallsOfStep, AreCallsOfRun}
use Rattle.nvme_fleet.specs.Layers.{Step, Run}
use Rattle.nvme_fleet.specs.Unique.{HaveTicketsOnce}

-- For any behaviour of the medium, and whether or not it reveals its content, each step and each run has calls.
abbrev pub StepsHaveCalls : Type 0
StepsHaveCalls =
    (tells : Bool) → (old new : Layers) → (event : FleetEvent) → (reply : Reply) → Step tells old event reply new
    → (calls : List MediumCall) × AreCallsOfStep tells old event reply new calls

abbrev pub RunsHaveCalls : Type 0
RunsHaveCalls =
    (tells : Bool) → (old new : Layers) → (events : List FleetEvent) → (replies : List Reply)
    → Run tells old events replies new → (calls : List MediumCall) × AreCallsOfRun tells old events replies new calls

-- Over a medium that reveals its content and has no faults, a step has only one list of calls, for any content.
abbrev pub StepCallsAreUnique : Type 0
StepCallsAreUnique =
    (tells : Bool) → (old new other : Layers) → (event : FleetEvent) → (reply another : Reply)
    → (calls these : List MediumCall) → (content left right : List ℕ)
    → AreCallsOfStep tells old event reply new calls → AreCallsOfStep tells old event another other these
    → Calls content_step content calls left → Calls content_step content these right → these ≡ calls

-- So has a run without a fault.
abbrev pub RunCallsAreUnique : Type 0
RunCallsAreUnique =
    (old new other : Layers) → (events : List FleetEvent) → (replies others : List Reply)
    → (calls these : List MediumCall) → (content left right : List ℕ) → HaveTicketsOnce old
    → AreCallsOfRun true old events replies new calls → AreCallsOfRun true old events others other these
    → Calls content_step content calls left → Calls content_step content these right
    → new.subsystem.device.failures ≡ old.subsystem.device.failures
    → other.subsystem.device.failures ≡ old.subsystem.device.failures
    → old.subsystem.device.failures < 2 ^ 64 - 1 → these ≡ calls

-- A Flush that is answered Successful Completion has made one flush of the medium, which succeeded, and no other call.
abbrev pub FlushedIsOneFlush : Type 0
FlushedIsOneFlush =
    (tells : Bool) → (old new : Layers) → (k i : ℕ) → (reply : Reply) → (outcome : Outcome)
    → (calls : List MediumCall) → AreCallsOfStep tells old (Execute k i) reply new calls
    → reply.seen ≡ Executed (Posted outcome) → IsFlushAt old.subsystem k i
    → outcome.status ≡ status.successful_completion → calls ≡ Flushes (Ok tt) ∷ []
