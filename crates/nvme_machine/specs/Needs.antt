-- The calls of the medium that the execution of a fetched command may make. They follow from the rules on access,
-- before the execution, without the command's data or data pointer.
use Rattle.std.specs.Prelude.{◌<◌, ◌≤◌, ℕ, ◌+◌, ◌==◌, Bool, if◌then◌else◌, List, Option, None, Some, slice_get}
use Rattle.std.specs.List.{AllByRecursion}
use Rattle.nvme_wire.specs.Submission.{nsid}
use Rattle.nvme_spec.specs.declared.command.Command.{Command}
use Rattle.nvme_spec.specs.declared.command.Command.TheVariants.{
  Flush,
  Write,
  Read,
  Compare,
  WriteZeroes,
  ReservationRegister,
  ReservationReport,
  ReservationAcquire,
  ReservationRelease,
}
use Rattle.nvme_spec.specs.declared.verdict.Verdict.{Verdict}
use Rattle.nvme_spec.specs.declared.verdict.Verdict.TheVariants.{Allowed, Denied}
use Rattle.nvme_spec.specs.Execution.{start_of}
use Rattle.nvme_spec.specs.IoRules.{verdict}
use Rattle.nvme_spec.specs.MediumCalls.{MediumCall, Reads, Writes, Flushes}
use Rattle.nvme_spec.specs.World.{World, Namespace, namespace_of}
use Rattle.nvme_machine.specs.declared.event.Event.TheVariants.{Execute}
use Rattle.nvme_machine.specs.declared.fetched.FetchedCommand.{FetchedCommand}
use Rattle.nvme_machine.specs.declared.need.Need.{Need}
use Rattle.nvme_machine.specs.declared.need.Need.TheVariants as need
use Rattle.nvme_machine.specs.declared.seen.Seen.{Seen}
use Rattle.nvme_machine.specs.Controllers.{Controller}
use Rattle.nvme_machine.specs.EventCalls.{AreCallsOfStep}
use Rattle.nvme_machine.specs.Subsystems.{Subsystem, controller_at}

-- what a command on these blocks of the medium needs
abbrev pub need_by : Command → ℕ → ℕ → Need
need_by Flush first blocks = need.Flush
need_by Write first blocks = need.Write first blocks
need_by Read first blocks = need.Read first blocks
need_by Compare first blocks = need.Read first blocks
need_by WriteZeroes first blocks = need.Zero first blocks
need_by ReservationRegister first blocks = need.Nothing
need_by ReservationReport first blocks = need.Nothing
need_by ReservationAcquire first blocks = need.Nothing
need_by ReservationRelease first blocks = need.Nothing

-- by the verdict of the rules on access: a denied command needs nothing
abbrev pub need_in : Verdict → Option Namespace → Need
need_in (Denied number why) space = need.Nothing
need_in (Allowed plan) space = need_by plan.kind (start_of space + plan.first) plan.blocks

-- what a fetched command of this controller needs; one of the admin queue needs nothing
unfoldable pub need_of : World → ℕ → FetchedCommand → Need
need_of w cntlid t =
    if t.queue == 0 then need.Nothing
    else need_in (verdict w cntlid t.entry t.marked) (namespace_of w (nsid t.entry))

abbrev pub need_of_one : World → ℕ → Option FetchedCommand → Need
need_of_one w cntlid None = need.Nothing
need_of_one w cntlid (Some t) = need_of w cntlid t

abbrev pub need_of_its : World → ℕ → ℕ → Option Controller → Need
need_of_its w cntlid i None = need.Nothing
need_of_its w cntlid i (Some c) = need_of_one w cntlid (slice_get c.fetched i)

-- what the i-th fetched command of a controller needs; nothing if it does not exist
abbrev pub need_at : Subsystem → ℕ → ℕ → Need
need_at s cntlid i = need_of_its s.world cntlid i (controller_at s cntlid)

-- a call is one of those that were needed
abbrev pub IsNeeded : Need → MediumCall → Type 0
IsNeeded (need.Read first blocks) (Reads b answer) = (first ≤ b) × (b < first + blocks)
IsNeeded (need.Write first blocks) (Writes b bytes answer) = (first ≤ b) × (b < first + blocks)
IsNeeded (need.Zero first blocks) (Writes b bytes answer) = (first ≤ b) × (b < first + blocks)
IsNeeded need.Flush (Flushes answer) = Unit {0}
IsNeeded other call = ⊥

-- An execution makes no call outside what its command needed: it reads and writes no other block, and flushes only for
-- a Flush.
abbrev pub CallsAreNeeded : Type 0
CallsAreNeeded =
    (tells : Bool) → (old new : Subsystem) → (k i : ℕ) → (seen : Seen) → (calls : List MediumCall)
    → AreCallsOfStep tells old (Execute k i) seen new calls → AllByRecursion (IsNeeded (need_at old k i)) calls
