-- Statements of laws in `laws.rt`: which of the needed calls an execution has made, by its answer. The need, the data
-- of the command and the answer together determine each block that was written, zeroed or flushed.
use Rattle.std.specs.Prelude.{
  ◌≡◌,
  ◌≢◌,
  ◌<◌,
  ◌≤◌,
  ℕ,
  ◌*◌,
  Bool,
  List,
  [],
  ◌∷◌,
  Option,
  None,
  Some,
  Ok,
  Err,
  replicate,
  slice_get,
}
use Rattle.nvme_spec.specs.declared.medium.MediumFault.{MediumFault}
use Rattle.nvme_spec.specs.declared.outcome.Outcome.{Outcome}
use Rattle.nvme_spec.specs.IoData.{data_of}
use Rattle.nvme_spec.specs.MediumCalls.{MediumAnswer, MediumCall, Flushes, passing, course, reads_from, writes_from}
use Rattle.nvme_spec.specs.Statuses as status
use Rattle.nvme_machine.specs.declared.event.Event.TheVariants.{Execute}
use Rattle.nvme_machine.specs.declared.fetched.FetchedCommand.{FetchedCommand}
use Rattle.nvme_machine.specs.declared.need.Need.{Need}
use Rattle.nvme_machine.specs.declared.need.Need.TheVariants as need
use Rattle.nvme_machine.specs.declared.seen.Executed.TheVariants.{Posted}
use Rattle.nvme_machine.specs.declared.seen.Seen.TheVariants.{Executed}
use Rattle.nvme_machine.specs.Controllers.{Controller}
use Rattle.nvme_machine.specs.EventCalls.{AreCallsOfStep}
use Rattle.nvme_machine.specs.Needs.{need_at}
use Rattle.nvme_machine.specs.Subsystems.{Subsystem, controller_at}

-- the data of a controller's i-th fetched command in its host's memory
abbrev pub sent_of_one : List ℕ → Option FetchedCommand → List ℕ
sent_of_one window None = []
sent_of_one window (Some t) = data_of window t.entry

abbrev pub sent_of_its : ℕ → Option Controller → List ℕ
sent_of_its i None = []
sent_of_its i (Some c) = sent_of_one c.window (slice_get c.fetched i)

abbrev pub sent_at : Subsystem → ℕ → ℕ → List ℕ
sent_at s cntlid i = sent_of_its i (controller_at s cntlid)

-- zeros for this many blocks
abbrev pub zero_blocks : ℕ → List ℕ
zero_blocks blocks = replicate (512 * blocks) 0

-- All that was needed was done: each block was read or written once, in rising order, each call succeeded, and there
-- was no other call.
abbrev pub AreWhole : Need → List ℕ → List MediumCall → Type 0
AreWhole need.Nothing sent calls = calls ≡ []
AreWhole (need.Read first blocks) sent calls = (read : List ℕ) × (calls ≡ passing (reads_from first read) blocks)
AreWhole (need.Write first blocks) sent calls = calls ≡ passing (writes_from first sent) blocks
AreWhole (need.Zero first blocks) sent calls = calls ≡ passing (writes_from first (zero_blocks blocks)) blocks
AreWhole need.Flush sent calls = calls ≡ Flushes (Ok tt) ∷ []

-- The calls for the first blocks succeeded, in rising order, the next one failed, and there was no other call.
pub record StopsAtFault (call : ℕ → MediumAnswer → MediumCall) (blocks : ℕ) (calls : List MediumCall) : Type 0 where
  pub passed : ℕ
  pub below : passed < blocks
  pub fault : MediumFault
  pub are : calls ≡ course call passed (Err fault)

-- a write or a flush failed: which blocks before it are written
abbrev pub StopWriting : Need → List ℕ → List MediumCall → Type 0
StopWriting need.Nothing sent calls = ⊥
StopWriting (need.Read first blocks) sent calls = ⊥
StopWriting (need.Write first blocks) sent calls = StopsAtFault (writes_from first sent) blocks calls
StopWriting (need.Zero first blocks) sent calls = StopsAtFault (writes_from first (zero_blocks blocks)) blocks calls
StopWriting need.Flush sent calls = (fault : MediumFault) × (calls ≡ Flushes (Err fault) ∷ [])

-- a read failed: which blocks before it were read
abbrev pub StopReading : Need → List MediumCall → Type 0
StopReading need.Nothing calls = ⊥
StopReading (need.Read first blocks) calls = (read : List ℕ) × StopsAtFault (reads_from first read) blocks calls
StopReading (need.Write first blocks) calls = ⊥
StopReading (need.Zero first blocks) calls = ⊥
StopReading need.Flush calls = ⊥

-- the blocks up to one that differs were read, each call succeeded, and there was no other call
pub record ReadsFront (first blocks : ℕ) (calls : List MediumCall) : Type 0 where
  pub read : List ℕ
  pub passed : ℕ
  pub some : 0 < passed
  pub within : passed ≤ blocks
  pub are : calls ≡ passing (reads_from first read) passed

abbrev pub StopComparing : Need → List MediumCall → Type 0
StopComparing need.Nothing calls = ⊥
StopComparing (need.Read first blocks) calls = ReadsFront first blocks calls
StopComparing (need.Write first blocks) calls = ⊥
StopComparing (need.Zero first blocks) calls = ⊥
StopComparing need.Flush calls = ⊥

-- P holds of each execution whose completion is posted: of its command's need and data, of the answer and of the calls
abbrev pub OfEachAnswer : (Need → List ℕ → Outcome → List MediumCall → Type 0) → Type 0
OfEachAnswer P =
    (tells : Bool) → (old new : Subsystem) → (k i : ℕ) → (outcome : Outcome) → (calls : List MediumCall)
    → AreCallsOfStep tells old (Execute k i) (Executed (Posted outcome)) new calls
    → P (need_at old k i) (sent_at old k i) outcome calls

-- Successful Completion (0:00): the command has made exactly the calls that it needed.
abbrev pub SuccessIsWhole : Type 0
SuccessIsWhole =
    OfEachAnswer
    (λ needed sent outcome calls. outcome.status ≡ status.successful_completion → AreWhole needed sent calls)

-- Write Fault (2:80): a write or a flush failed, and the blocks before it are written.
abbrev pub WriteFaultNamesTheFront : Type 0
WriteFaultNamesTheFront =
    OfEachAnswer (λ needed sent outcome calls. outcome.status ≡ status.write_fault → StopWriting needed sent calls)

-- Unrecovered Read Error (2:81): a read failed, and the blocks before it were read.
abbrev pub ReadErrorNamesTheFront : Type 0
ReadErrorNamesTheFront =
    OfEachAnswer
    (λ needed sent outcome calls. outcome.status ≡ status.unrecovered_read_error → StopReading needed calls)

-- Compare Failure (2:85): the blocks up to the first that differs were read.
abbrev pub CompareFailureNamesTheFront : Type 0
CompareFailureNamesTheFront =
    OfEachAnswer (λ needed sent outcome calls. outcome.status ≡ status.compare_failure → StopComparing needed calls)

-- With any other status, no call was made.
abbrev pub OtherAnswersCallNothing : Type 0
OtherAnswersCallNothing =
    OfEachAnswer (λ needed sent outcome calls. outcome.status ≢ status.successful_completion
    → outcome.status ≢ status.write_fault → outcome.status ≢ status.unrecovered_read_error
    → outcome.status ≢ status.compare_failure → calls ≡ [])

-- A command that a rule denied, according to its answer, has made no call.
abbrev pub DenialCallsNothing : Type 0
DenialCallsNothing = OfEachAnswer (λ needed sent outcome calls. outcome.rule ≢ 0 → calls ≡ [])
