-- The calls of the medium that a fetched command makes when it is executed, by its answer. They also describe a command
-- on a medium that does not reveal its content.
use Rattle.std.specs.Prelude.{◌≡◌, ◌==◌, ℕ, Bool, true, false, List, [], Option, None, Some, Err, slice_get}
use Rattle.nvme_spec.specs.declared.verdict.Denial.{Denial}
use Rattle.nvme_spec.specs.MediumCalls.{MediumCall}
use Rattle.nvme_spec.specs.CommandCalls.{AreCallsBy}
use Rattle.nvme_spec.specs.IoData.{io_verdict}
use Rattle.nvme_spec.specs.Execution.{Scene}
use Rattle.nvme_machine.specs.declared.fetched.FetchedCommand.{FetchedCommand}
use Rattle.nvme_machine.specs.declared.seen.Executed.{Executed}
use Rattle.nvme_machine.specs.declared.seen.Executed.TheVariants.{NoSuch, CqFull}
use Rattle.nvme_machine.specs.Controllers.{QueuePair, queues_of, open_pair}
use Rattle.nvme_machine.specs.CommandExecutions.{CommandExecution, judgement}
use Rattle.nvme_machine.specs.Executing.{Setting, scene_in, Finishes, ExecutesNth}

-- by whether it came from the admin queue: such a command makes no call
abbrev pub AreCallsAs : Bool → ℕ → FetchedCommand → Scene → CommandExecution → List MediumCall → Type 0
AreCallsAs true cntlid t s a calls = calls ≡ []
AreCallsAs false cntlid t s a calls =
    AreCallsBy (io_verdict s.world cntlid t.entry t.marked s.window) s.world s.window t.entry a.outcome.status
    a.left.window calls

-- a fetched command of a controller, executed now with this answer, makes these calls
unfoldable pub AreCallsOfExecution : ℕ → FetchedCommand → Scene → CommandExecution → List MediumCall → Type 0
AreCallsOfExecution cntlid t s a calls = AreCallsAs (t.queue == 0) cntlid t s a calls

-- The i-th command has an answer, which determines the new state, and has made the calls of this answer.
pub record FinishesCalling (tells : Bool) (i : ℕ) (t : FetchedCommand) (p : QueuePair) (old : Setting)
    (executed : Executed) (new : Setting) (calls : List MediumCall) : Type 0 where
  pub finishes : Finishes tells i t p old executed new
  pub are : AreCallsOfExecution old.controller.cntlid t (scene_in old) finishes.execution calls

-- if its completion queue is full, nothing changes, and no call is made
abbrev pub AreCallsOver : Option QueuePair → Bool → ℕ → FetchedCommand → Setting → Executed → Setting
    → List MediumCall → Type 0
AreCallsOver None tells i t old executed new calls = (executed ≡ CqFull) × (new ≡ old) × (calls ≡ [])
AreCallsOver (Some p) tells i t old executed new calls = FinishesCalling tells i t p old executed new calls

abbrev pub AreCallsOne : Option FetchedCommand → Bool → ℕ → Setting → Executed → Setting → List MediumCall → Type 0
AreCallsOne None tells i old executed new calls = (executed ≡ NoSuch) × (new ≡ old) × (calls ≡ [])
AreCallsOne (Some t) tells i old executed new calls =
    AreCallsOver (open_pair old.controller t) tells i t old executed new calls

-- the calls of the medium that a controller makes when it executes the i-th of its fetched commands
abbrev pub AreCallsNth : Bool → ℕ → Setting → Executed → Setting → List MediumCall → Type 0
AreCallsNth tells i old executed new calls =
    AreCallsOne (slice_get old.controller.fetched i) tells i old executed new calls

-- These calls are those of an execution.
abbrev pub CallsAreOfAnExecution : Type 0
CallsAreOfAnExecution =
    (tells : Bool) → (i : ℕ) → (old new : Setting) → (executed : Executed) → (calls : List MediumCall)
    → AreCallsNth tells i old executed new calls → ExecutesNth tells i old executed new

-- A command that a rule denies makes no call.
abbrev pub DeniedMakesNoCall : Type 0
DeniedMakesNoCall =
    (tells : Bool) → (i : ℕ) → (old new : Setting) → (executed : Executed) → (calls : List MediumCall)
    → (t : FetchedCommand) → (denial : Denial)
    → AreCallsNth tells i old executed new calls → slice_get old.controller.fetched i ≡ Some t
    → judgement (queues_of old.controller) old.controller.cntlid t (scene_in old) ≡ Err denial → calls ≡ []

-- A command of the admin queue makes no call.
abbrev pub AdminMakesNoCall : Type 0
AdminMakesNoCall =
    (tells : Bool) → (i : ℕ) → (old new : Setting) → (executed : Executed) → (calls : List MediumCall)
    → (t : FetchedCommand)
    → AreCallsNth tells i old executed new calls → slice_get old.controller.fetched i ≡ Some t → t.queue ≡ 0
    → calls ≡ []
