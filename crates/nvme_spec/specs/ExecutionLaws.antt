-- Statements of `laws/executions.rt` on the execution of every I/O command. It is determined except for faults of the
-- medium. It changes only what the policy allows, so a host that a reservation has fenced off writes nothing.
use Rattle.std.specs.Prelude.{◌≡◌, ◌≢◌, ◌⊎◌, ◌<◌, ◌≤◌, ◌-◌, ◌^◌, ℕ, Bool, true, false, List, length}
use Rattle.nvme_wire.specs.Submission.{nsid}
use Rattle.nvme_spec.specs.declared.command.Command.{Command}
use Rattle.nvme_spec.specs.declared.outcome.Outcome.{Outcome}
use Rattle.nvme_spec.specs.declared.verdict.Plan.{Plan}
use Rattle.nvme_spec.specs.declared.verdict.Verdict.TheVariants.{Allowed}
use Rattle.nvme_spec.specs.World.{World}
use Rattle.nvme_spec.specs.Commands.{is_one_of, altering, reserving}
use Rattle.nvme_spec.specs.IoData.{io_verdict}
use Rattle.nvme_spec.specs.Execution.{Scene, Executes}
use Rattle.nvme_spec.specs.FaultFree.{fault_free_execution}
use Rattle.nvme_spec.specs.Layout.{IsLaidOut, HasSameLayout, bytes_of, reservation_of, may_write}
use Rattle.std.specs.Prelude.{Some}

-- the failure count never falls
abbrev pub FailuresNeverFall : Type 0
FailuresNeverFall =
    (tells : Bool) → (cntlid : ℕ) → (e : List ℕ) → (marked : Bool) → (old new : Scene) → (outcome : Outcome)
    → Executes tells cntlid e marked old new outcome → old.device.failures ≤ new.device.failures

-- if the namespaces are on the medium, each command can be executed without a fault
abbrev pub FaultFreeExecutes : Type 0
FaultFreeExecutes =
    (cntlid : ℕ) → (e : List ℕ) → (marked : Bool) → (s : Scene) → IsLaidOut s.world s.device.content
    → Executes true cntlid e marked s (fault_free_execution cntlid e marked s).left
    (fault_free_execution cntlid e marked s).outcome

-- and that is the only execution without a fault: the state after it and its answer are determined
abbrev pub ExecutesAlone : Type 0
ExecutesAlone =
    (cntlid : ℕ) → (e : List ℕ) → (marked : Bool) → (old new : Scene) → (outcome : Outcome)
    → Executes true cntlid e marked old new outcome
    → new.device.failures ≡ old.device.failures → old.device.failures < 2 ^ 64 - 1
    → (new ≡ (fault_free_execution cntlid e marked old).left)
    × (outcome ≡ (fault_free_execution cntlid e marked old).outcome)

-- Whatever the medium reveals, an execution leaves controllers, attachments, namespaces except for one's reservation,
-- and the length of host memory.
pub record KeepsTheRest (n : ℕ) (old new : Scene) : Type 0 where
  pub layout : HasSameLayout old.world new.world
  pub reservations : (other : ℕ) → other ≢ n → reservation_of new.world other ≡ reservation_of old.world other
  pub window : length new.window ≡ length old.window

abbrev pub ExecutionKeepsTheRest : Type 0
ExecutionKeepsTheRest =
    (tells : Bool) → (cntlid : ℕ) → (e : List ℕ) → (marked : Bool) → (old new : Scene) → (outcome : Outcome)
    → Executes tells cntlid e marked old new outcome → KeepsTheRest (nsid e) old new

-- all rules let a command pass, and it is one of these
pub record IsAllowed (commands : List Command) (w : World) (cntlid : ℕ) (e : List ℕ) (marked : Bool)
    (window : List ℕ) : Type 0 where
  pub plan : Plan
  pub allowed : io_verdict w cntlid e marked window ≡ Allowed plan
  pub is_one : is_one_of (Some plan.kind) commands ≡ true

-- The bytes of a namespace change only by a Write or Write Zeroes on it that all rules let pass.
abbrev pub OnlyAllowedWritesWrite : Type 0
OnlyAllowedWritesWrite =
    (cntlid : ℕ) → (e : List ℕ) → (marked : Bool) → (old new : Scene) → (outcome : Outcome) → (n : ℕ)
    → IsLaidOut old.world old.device.content → Executes true cntlid e marked old new outcome
    → (bytes_of new.world new.device.content n ≡ bytes_of old.world old.device.content n)
    ⊎ ((nsid e ≡ n) × IsAllowed altering old.world cntlid e marked old.window)

-- A reservation changes only by a Reservation Register, Acquire or Release on its namespace that all rules let pass.
abbrev pub OnlyAllowedActionsReserve : Type 0
OnlyAllowedActionsReserve =
    (tells : Bool) → (cntlid : ℕ) → (e : List ℕ) → (marked : Bool) → (old new : Scene) → (outcome : Outcome) → (n : ℕ)
    → Executes tells cntlid e marked old new outcome
    → (reservation_of new.world n ≡ reservation_of old.world n)
    ⊎ ((nsid e ≡ n) × IsAllowed reserving old.world cntlid e marked old.window)

-- A host that may not write to a namespace by its reservation changes no byte of it.
abbrev pub FencedCommandsWriteNothing : Type 0
FencedCommandsWriteNothing =
    (cntlid : ℕ) → (e : List ℕ) → (marked : Bool) → (old new : Scene) → (outcome : Outcome) → (n : ℕ)
    → IsLaidOut old.world old.device.content → Executes true cntlid e marked old new outcome
    → may_write old.world cntlid n ≡ false
    → bytes_of new.world new.device.content n ≡ bytes_of old.world old.device.content n

-- The medium keeps its size, and the namespaces keep their places on it.
abbrev pub LayoutStays : Type 0
LayoutStays =
    (cntlid : ℕ) → (e : List ℕ) → (marked : Bool) → (old new : Scene) → (outcome : Outcome)
    → IsLaidOut old.world old.device.content → Executes true cntlid e marked old new outcome
    → (length new.device.content ≡ length old.device.content) × IsLaidOut new.world new.device.content
