-- The calls that events make of the medium: those of the executions among them, in order, and no others. They also
-- describe events on a medium that does not reveal its content.
use Rattle.std.specs.Prelude.{◌≡◌, ℕ, Bool, List, [], ◌∷◌, ◌++◌, Option, None, Some, slice_get}
use Rattle.nvme_spec.specs.MediumCalls.{MediumCall}
use Rattle.nvme_machine.specs.declared.event.Event.{Event}
use Rattle.nvme_machine.specs.declared.event.Event.TheVariants.{Store, Write32, Read32, Fetch, Execute, PowerCycle}
use Rattle.nvme_machine.specs.declared.fetched.FetchedCommand.{FetchedCommand}
use Rattle.nvme_machine.specs.declared.seen.Executed.TheVariants.{NoSuch, CqFull}
use Rattle.nvme_machine.specs.declared.seen.Seen.{Seen}
use Rattle.nvme_machine.specs.declared.seen.Seen.TheVariants.{Executed, Cycled, NoController}
use Rattle.nvme_machine.specs.Controllers.{Controller, QueuePair, after_store, wrote, has_read, after_fetch, open_pair}
use Rattle.nvme_machine.specs.Subsystems.{
  Subsystem,
  Completes,
  Reacts,
  Step,
  Run,
  controller_at,
  scene_of,
  after_power_cycle,
}
use Rattle.nvme_machine.specs.Calling.{AreCallsOfExecution}

-- A command is executed: it has an answer, which determines the new state, and has made the calls of this answer.
pub record CompletesCalling (tells : Bool) (old : Subsystem) (k : ℕ) (c : Controller) (i : ℕ) (t : FetchedCommand)
    (p : QueuePair) (seen : Seen) (new : Subsystem) (calls : List MediumCall) : Type 0 where
  pub completes : Completes tells old k c i t p seen new
  pub are : AreCallsOfExecution k t (scene_of old c) completes.execution calls

-- If its completion queue is full, nothing changes, and no call is made.
abbrev pub CallingOver : Option QueuePair → Bool → Subsystem → ℕ → Controller → ℕ → FetchedCommand → Seen → Subsystem
    → List MediumCall → Type 0
CallingOver None tells old k c i t seen new calls = (seen ≡ Executed CqFull) × (new ≡ old) × (calls ≡ [])
CallingOver (Some p) tells old k c i t seen new calls = CompletesCalling tells old k c i t p seen new calls

abbrev pub CallingOne : Option FetchedCommand → Bool → Subsystem → ℕ → Controller → ℕ → Seen → Subsystem
    → List MediumCall → Type 0
CallingOne None tells old k c i seen new calls = (seen ≡ Executed NoSuch) × (new ≡ old) × (calls ≡ [])
CallingOne (Some t) tells old k c i seen new calls = CallingOver (open_pair c t) tells old k c i t seen new calls

abbrev pub CallingAt : Option Controller → Bool → Subsystem → ℕ → ℕ → Seen → Subsystem → List MediumCall → Type 0
CallingAt None tells old k i seen new calls = (seen ≡ NoController) × (new ≡ old) × (calls ≡ [])
CallingAt (Some c) tells old k i seen new calls = CallingOne (slice_get c.fetched i) tells old k c i seen new calls

-- One event, and the calls that it makes: those of an execution, otherwise none.
abbrev pub AreCallsOfStep : Bool → Subsystem → Event → Seen → Subsystem → List MediumCall → Type 0
AreCallsOfStep tells old (Store k address bytes) seen new calls =
    Reacts old k (after_store address bytes.now) seen new × (calls ≡ [])
AreCallsOfStep tells old (Write32 k offset v) seen new calls = Reacts old k (wrote offset v) seen new × (calls ≡ [])
AreCallsOfStep tells old (Read32 k offset) seen new calls = Reacts old k (has_read offset) seen new × (calls ≡ [])
AreCallsOfStep tells old (Fetch k q) seen new calls = Reacts old k (after_fetch q) seen new × (calls ≡ [])
AreCallsOfStep tells old (Execute k i) seen new calls = CallingAt (controller_at old k) tells old k i seen new calls
AreCallsOfStep tells old PowerCycle seen new calls =
    (seen ≡ Cycled) × (new ≡ after_power_cycle old) × (calls ≡ [])

-- an event other than an execution
abbrev pub ExecutesNothing : Event → Type 0
ExecutesNothing (Store k address bytes) = Unit {0}
ExecutesNothing (Write32 k offset v) = Unit {0}
ExecutesNothing (Read32 k offset) = Unit {0}
ExecutesNothing (Fetch k q) = Unit {0}
ExecutesNothing (Execute k i) = ⊥
ExecutesNothing PowerCycle = Unit {0}

-- A list of events with their calls. There is one state between two events, and the calls of the first come before
-- those of the second.
abbrev pub AreCallsOfRun : Bool → Subsystem → List Event → List Seen → Subsystem → List MediumCall → Type 0
AreCallsOfRun tells old [] [] new calls = (new ≡ old) × (calls ≡ [])
AreCallsOfRun tells old (event ∷ events) (seen ∷ later) new calls =
    (mid : Subsystem) × (here : List MediumCall) × (behind : List MediumCall)
    × AreCallsOfStep tells old event seen mid here × AreCallsOfRun tells mid events later new behind
    × (calls ≡ here ++ behind)
AreCallsOfRun tells old [] (seen ∷ later) new calls = ⊥
AreCallsOfRun tells old (event ∷ events) [] new calls = ⊥

-- These calls are those of a step, and of a run.
abbrev pub CallsAreOfAStep : Type 0
CallsAreOfAStep =
    (tells : Bool) → (old new : Subsystem) → (event : Event) → (seen : Seen) → (calls : List MediumCall)
    → AreCallsOfStep tells old event seen new calls → Step tells old event seen new

abbrev pub CallsAreOfARun : Type 0
CallsAreOfARun =
    (tells : Bool) → (old new : Subsystem) → (events : List Event) → (seen : List Seen) → (calls : List MediumCall)
    → AreCallsOfRun tells old events seen new calls → Run tells old events seen new
