-- Statements of `laws/calls.rt` on the calls of every I/O command. Each execution has calls. Over a medium that reveals
-- its content, without faults, they are one list, which leaves the content of the execution. No denied command is
-- answered Successful Completion, so a Flush with that answer was one flush.
use Rattle.std.specs.Prelude.{◌≡◌, ◌≢◌, ℕ, Bool, List, [], ◌∷◌, Ok}
use Rattle.nvme_wire.specs.Submission.{opcode}
use Rattle.nvme_wire.specs.declared.status.Status.{Status}
use Rattle.nvme_spec.specs.declared.command.Command.TheVariants.{Flush}
use Rattle.nvme_spec.specs.declared.outcome.Outcome.{Outcome}
use Rattle.nvme_spec.specs.declared.verdict.Verdict.TheVariants.{Denied}
use Rattle.nvme_spec.specs.CommandCalls.{AreCallsBy}
use Rattle.nvme_spec.specs.Commands.{opcode_of}
use Rattle.nvme_spec.specs.Execution.{Scene, Executes}
use Rattle.nvme_spec.specs.FaultFree.{fault_free_execution}
use Rattle.nvme_spec.specs.FaultFreeCalls.{content_step, command_calls}
use Rattle.nvme_spec.specs.IoData.{io_verdict}
use Rattle.nvme_spec.specs.Layout.{IsLaidOut}
use Rattle.nvme_spec.specs.MediumCalls.{MediumCall, Flushes, Calls}
use Rattle.nvme_spec.specs.Statuses as status
use Rattle.nvme_spec.specs.World.{World}

-- these are calls of an I/O command of a controller, by its status and by host memory after it
abbrev pub AreCallsOfCommand : ℕ → List ℕ → Bool → Scene → Status → List ℕ → List MediumCall → Type 0
AreCallsOfCommand cntlid e marked s answered after calls =
    AreCallsBy (io_verdict s.world cntlid e marked s.window) s.world s.window e answered after calls

-- Whatever the medium does, and whether or not it reveals its content, each execution has calls.
abbrev pub ExecutionsHaveCalls : Type 0
ExecutionsHaveCalls =
    (tells : Bool) → (cntlid : ℕ) → (e : List ℕ) → (marked : Bool) → (old new : Scene) → (outcome : Outcome)
    → Executes tells cntlid e marked old new outcome
    → (calls : List MediumCall) × AreCallsOfCommand cntlid e marked old outcome.status new.window calls

-- Over this content, without faults, they are one list.
abbrev pub PassingCallsAreUnique : Type 0
PassingCallsAreUnique =
    (cntlid : ℕ) → (e : List ℕ) → (marked : Bool) → (s : Scene) → (answered : Status) → (after : List ℕ)
    → (calls : List MediumCall) → (left : List ℕ) → AreCallsOfCommand cntlid e marked s answered after calls
    → Calls content_step s.device.content calls left → calls ≡ command_calls cntlid e marked s

-- And that list is the calls of the execution without faults, can be made, and leaves the content of the execution.
abbrev pub PassingCallsExist : Type 0
PassingCallsExist =
    (cntlid : ℕ) → (e : List ℕ) → (marked : Bool) → (s : Scene) → IsLaidOut s.world s.device.content
    → AreCallsOfCommand cntlid e marked s (fault_free_execution cntlid e marked s).outcome.status
    (fault_free_execution cntlid e marked s).left.window (command_calls cntlid e marked s)
    × Calls content_step s.device.content (command_calls cntlid e marked s)
    (fault_free_execution cntlid e marked s).left.device.content

-- No command that a rule denies is answered Successful Completion.
abbrev pub DeniedIsNoSuccess : Type 0
DeniedIsNoSuccess =
    (w : World) → (cntlid : ℕ) → (e : List ℕ) → (marked : Bool) → (window : List ℕ) → (number : ℕ) → (why : Status)
    → io_verdict w cntlid e marked window ≡ Denied number why → why ≢ status.successful_completion

-- A Flush answered Successful Completion has made one flush of the medium, which succeeded, and no other call.
abbrev pub FlushedIsOneFlush : Type 0
FlushedIsOneFlush =
    (tells : Bool) → (cntlid : ℕ) → (e : List ℕ) → (marked : Bool) → (old new : Scene) → (outcome : Outcome)
    → (calls : List MediumCall) → Executes tells cntlid e marked old new outcome
    → AreCallsOfCommand cntlid e marked old outcome.status new.window calls → opcode e ≡ opcode_of Flush
    → outcome.status ≡ status.successful_completion → calls ≡ Flushes (Ok tt) ∷ []
