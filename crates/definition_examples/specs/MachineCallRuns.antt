-- For the examples of calls and answers: a controller that has fetched commands on two blocks, its executions, and
-- theorems that lack one premise, and so are false.
use Rattle.std.specs.List.{AllByRecursion}
use Rattle.std.specs.Prelude.{◌≡◌, ◌≢◌, ◌==◌, ℕ, Bool, true, false, List, [], ◌∷◌, ◌++◌, Ok, Err}
use Rattle.nvme_wire.specs.declared.status.Status.{Status}
use Rattle.nvme_spec.specs.declared.medium.MediumFault.{MediumFault}
use Rattle.nvme_spec.specs.declared.outcome.Outcome.{Outcome}
use Rattle.nvme_spec.specs.declared.verdict.Denial.{Denial}
use Rattle.nvme_spec.specs.declared.verdict.Plan.{Plan}
use Rattle.nvme_spec.specs.declared.verdict.Verdict.TheVariants.{Allowed}
use Rattle.nvme_spec.specs.Execution.{denial_outcome, no_marks}
use Rattle.nvme_spec.specs.IoData.{io_verdict}
use Rattle.nvme_spec.specs.MediumCalls.{MediumCall, Reads, Writes, Flushes}
use Rattle.nvme_spec.specs.Queues as ring
use Rattle.nvme_spec.specs.Statuses as status
use Rattle.nvme_machine.specs.declared.event.Event.{Event}
use Rattle.nvme_machine.specs.declared.event.Event.TheVariants.{Execute}
use Rattle.nvme_machine.specs.declared.fetched.FetchedCommand.{FetchedCommand}
use Rattle.nvme_machine.specs.declared.need.Need.{Need}
use Rattle.nvme_machine.specs.declared.seen.Executed.TheVariants.{Posted}
use Rattle.nvme_machine.specs.declared.seen.Seen.{Seen}
use Rattle.nvme_machine.specs.declared.seen.Seen.TheVariants.{Executed}
use Rattle.nvme_machine.specs.AllowedCalls.{IsCutAt, IsOneFlush}
use Rattle.nvme_machine.specs.Controllers.{Controller, QueuePair}
use Rattle.nvme_machine.specs.EventCalls.{AreCallsOfRun, AreCallsOfStep}
use Rattle.nvme_machine.specs.Examples.{a_flush, a_write, has_fetched, having, protected_having}
use Rattle.nvme_machine.specs.FaultFree.{fault_free_left, fault_free_seen}
use Rattle.nvme_machine.specs.NeededCalls.{AreWhole, OfEachAnswer, StopComparing, StopReading, StopWriting, sent_at}
use Rattle.nvme_machine.specs.Needs.{need_at}
use Rattle.nvme_machine.specs.Runs.{Waits}
use Rattle.nvme_machine.specs.Subsystems.{Run, Step, Subsystem}
use Rattle.nvme_theorem_runs.specs.OwnData.{block_of}

-- The data in host memory are a block of bytes 3 and one of bytes 4. The blocks of the medium have bytes 1 and 2.
abbrev pub sent_blocks : List ℕ
sent_blocks = block_of 3 ++ block_of 4

abbrev pub caller : List FetchedCommand → Controller
caller commands = record (has_fetched commands) { window = sent_blocks }

unfoldable pub calling : List FetchedCommand → Subsystem
calling commands = record (having commands) { controllers = caller commands ∷ [] }

-- the same with a write protected namespace
unfoldable pub protected_calling : List FetchedCommand → Subsystem
protected_calling commands = record (protected_having commands) { controllers = caller commands ∷ [] }

-- the queues of the commands
abbrev pub io_queues : QueuePair
io_queues = record {
  submission = record { base = 8192; cqid = 1; head = ring.empty_submission_head 4 };
  completion = record { base = 12288; tail = ring.empty_completion_tail 4 };
}

-- an outcome with this status
abbrev pub outcome_with : Status → Outcome
outcome_with status = record { status = status; dw0 = 0; rule = 0; marks = no_marks }

-- rule 8 denies a write of a protected namespace
abbrev pub protection_denial : Denial
protection_denial = record { rule = 8; status = status.namespace_is_write_protected }

abbrev pub protected_outcome : Outcome
protected_outcome = denial_outcome 8 status.namespace_is_write_protected

-- The first command of controller 1 is executed with this outcome and these calls. Before that it needed this, and had
-- these data.
pub record Makes (s : Subsystem) (needed : Need) (has : List ℕ) (outcome : Outcome) (calls : List MediumCall) : Type 0
  where
    pub left : Subsystem
    pub are : AreCallsOfStep true s (Execute 1 0) (Executed (Posted outcome)) left calls
    pub needs : need_at s 1 0 ≡ needed
    pub data_there : sent_at s 1 0 ≡ has

-- The calls of a Write: both blocks are written, or the second write fails.
abbrev pub both_written : List MediumCall
both_written = Writes 0 (block_of 3) (Ok tt) ∷ Writes 1 (block_of 4) (Ok tt) ∷ []

abbrev pub second_not_written : MediumFault → List MediumCall
second_not_written fault = Writes 0 (block_of 3) (Ok tt) ∷ Writes 1 (block_of 4) (Err fault) ∷ []

-- The calls of a Read whose second block can't be read, and of a Compare whose first block differs.
abbrev pub second_not_read : MediumFault → List MediumCall
second_not_read fault = Reads 0 (Ok (block_of 1)) ∷ Reads 1 (Err fault) ∷ []

abbrev pub first_read : List MediumCall
first_read = Reads 0 (Ok (block_of 1)) ∷ []

-- Four theorems for any status: SuccessIsWhole, WriteFaultNamesTheFront, ReadErrorNamesTheFront and
-- CompareFailureNamesTheFront.
abbrev pub AnyStatusIsWhole : Type 0
AnyStatusIsWhole = OfEachAnswer (λ needed has outcome calls. AreWhole needed has calls)

abbrev pub AnyStatusStopsWriting : Type 0
AnyStatusStopsWriting = OfEachAnswer (λ needed has outcome calls. StopWriting needed has calls)

abbrev pub AnyStatusStopsReading : Type 0
AnyStatusStopsReading = OfEachAnswer (λ needed has outcome calls. StopReading needed calls)

abbrev pub AnyStatusStopsComparing : Type 0
AnyStatusStopsComparing = OfEachAnswer (λ needed has outcome calls. StopComparing needed calls)

-- OtherAnswersCallNothing, where other answers are those that have none of these statuses.
abbrev pub NothingIsCalledUnless : List Status → Type 0
NothingIsCalledUnless statuses =
    OfEachAnswer (λ needed has outcome calls. AllByRecursion (λ s. outcome.status ≢ s) statuses → calls ≡ [])

-- DenialCallsNothing for an outcome of any rule, or of none.
abbrev pub AnyRuleCallsNothing : Type 0
AnyRuleCallsNothing = OfEachAnswer (λ needed has outcome calls. calls ≡ [])

-- FlushReachesTheMedium for any command.
abbrev pub AnyCommandIsOneFlush : Type 0
AnyCommandIsOneFlush =
    (tells : Bool) → (old new : Subsystem) → (k i : ℕ) → (c : Controller) → (t : FetchedCommand) → (p : QueuePair)
    → (plan : Plan) → (outcome : Outcome) → (calls : List MediumCall)
    → AreCallsOfStep tells old (Execute k i) (Executed (Posted outcome)) new calls → Waits old k i c t p
    → (t.queue == 0) ≡ false → io_verdict old.world k t.entry t.marked c.window ≡ Allowed plan
    → IsOneFlush outcome calls

-- CallsAreInOrder: a Write is executed, and then a Flush.
abbrev pub writing_then_flushing : Subsystem
writing_then_flushing = calling (a_write ∷ a_flush ∷ [])

abbrev pub in_order : List Event
in_order = Execute 1 0 ∷ Execute 1 0 ∷ []

abbrev pub written_then_flushed : List MediumCall
written_then_flushed = both_written ++ Flushes (Ok tt) ∷ []

pub record OrderAtWork : Type 0 where
  pub seen : fault_free_seen writing_then_flushing in_order
      ≡ Executed (Posted (outcome_with status.successful_completion))
      ∷ Executed (Posted (outcome_with status.successful_completion)) ∷ []
  pub run : AreCallsOfRun true writing_then_flushing in_order (fault_free_seen writing_then_flushing in_order)
      (fault_free_left writing_then_flushing in_order) written_then_flushed
  pub cut : IsCutAt true writing_then_flushing (Execute 1 0 ∷ []) (Execute 1 0) []
      (fault_free_seen writing_then_flushing in_order) (fault_free_left writing_then_flushing in_order)
      written_then_flushed
  pub before : cut.before ≡ both_written
  pub own : cut.own ≡ Flushes (Ok tt) ∷ []
  pub behind : cut.behind ≡ []

-- The theorem for calls that need not be those of the run.
abbrev pub AnyCallsAreInOrder : Type 0
AnyCallsAreInOrder =
    (tells : Bool) → (old new : Subsystem) → (front later : List Event) → (event : Event) → (seen : List Seen)
    → (calls : List MediumCall) → Run tells old (front ++ event ∷ later) seen new
    → IsCutAt tells old front event later seen new calls

-- DeniedIsNoSuccess for a command that need not be denied.
abbrev pub AnyVerdictIsNoSuccess : Type 0
AnyVerdictIsNoSuccess =
    (tells : Bool) → (old new : Subsystem) → (k i : ℕ) → (c : Controller) → (t : FetchedCommand) → (p : QueuePair)
    → (outcome : Outcome) → Step tells old (Execute k i) (Executed (Posted outcome)) new → Waits old k i c t p
    → outcome.status ≢ status.successful_completion
