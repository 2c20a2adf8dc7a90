-- A driver brings its controller up (Base Specification: Memory-based Controller Initialization, Create I/O Completion
-- Queue, Create I/O Submission Queue).
use Rattle.std.specs.Prelude.{
  ◌≡◌,
  ℕ,
  zero,
  suc,
  ◌+◌,
  ◌-◌,
  ◌*◌,
  ◌%◌,
  ◌^◌,
  ◌==◌,
  Bool,
  true,
  false,
  ◌&&◌,
  if◌then◌else◌,
  List,
  [],
  ◌∷◌,
  replicate,
  Option,
  None,
  Some,
  MatchOption,
  Result,
  Ok,
  Err,
}
use Rattle.nvme_wire.specs.declared.sqe.fields.SqeFields.{SqeFields}
use Rattle.nvme_wire.specs.declared.status.Status.{Status}
use Rattle.nvme_wire.specs.Submission.{submission_entry}
use Rattle.nvme_wire.specs.Completion.{sq_head, sq_id, cid, status}
use Rattle.nvme_spec.specs.Limits.{memory_page}
use Rattle.nvme_spec.specs.AdminCommands.{opcode_of}
use Rattle.nvme_spec.specs.declared.command.AdminCommand.TheVariants.{CreateSubmissionQueue, CreateCompletionQueue}
use Rattle.nvme_driver.specs.declared.lane.Lane.TheVariants.{Admin, Io}
use Rattle.nvme_driver.specs.declared.state.State.{State}
use Rattle.nvme_driver.specs.declared.state.State.TheVariants.{Down, Up}
use Rattle.nvme_driver.specs.declared.faults.UpFault.{UpFault}
use Rattle.nvme_driver.specs.declared.faults.UpFault.TheVariants.{NotReady, NoAnswer, Refused}
use Rattle.nvme_driver.specs.Calls.{Call, Stores, Writes, Reads, Turns, Calls}
use Rattle.nvme_driver.specs.Layout.{
  submission_entries,
  completion_entries,
  slot_count,
  queue_id,
  submission_queue,
  completion_queue,
  command_place,
  tail_doorbell,
  head_doorbell,
}
use Rattle.nvme_driver.specs.Drivers.{Ends, Driver, empty_ends, put_ends, tail_of, cc}
use Rattle.nvme_driver.specs.Polls.{look, consumed_ends, head_of, is_success}

-- the registers besides Controller Configuration: Controller Status, Admin Queue Attributes, and the two halves of the
-- Admin Submission and Completion Queue Base Addresses
abbrev pub csts : ℕ
csts = 0x1c

abbrev pub aqa : ℕ
aqa = 0x24

abbrev pub asq_low : ℕ
asq_low = 0x28

abbrev pub asq_high : ℕ
asq_high = 0x2c

abbrev pub acq_low : ℕ
acq_low = 0x30

abbrev pub acq_high : ℕ
acq_high = 0x34

-- the sizes of the admin queues, ASQS in bits 11:0 and ACQS in bits 27:16, each one less
abbrev pub admin_sizes : ℕ
admin_sizes = submission_entries - 1 + 2 ^ 16 * (completion_entries - 1)

-- EN, entries of 2 ^ 6 bytes (IOSQES) and of 2 ^ 4 bytes (IOCQES)
abbrev pub enabling : ℕ
enabling = 1 + 2 ^ 16 * 6 + 2 ^ 20 * 4

-- a page of zeros. It is not an `abbrev`, so that no proof computes its bytes
unfoldable pub zero_page : List ℕ
zero_page = replicate memory_page 0

-- the calls of a start: the controller is disabled, the queue pages are zeroed, it is enabled, and its status is read
abbrev pub start_calls : ℕ → List Call
start_calls value =
    Writes cc 0
    ∷ Stores (submission_queue Admin) zero_page
    ∷ Stores (completion_queue Admin) zero_page
    ∷ Stores (submission_queue Io) zero_page
    ∷ Stores (completion_queue Io) zero_page
    ∷ Writes aqa admin_sizes
    ∷ Writes asq_low (submission_queue Admin)
    ∷ Writes asq_high 0
    ∷ Writes acq_low (completion_queue Admin)
    ∷ Writes acq_high 0
    ∷ Writes cc enabling
    ∷ Reads csts value
    ∷ []

-- RDY
abbrev pub is_ready : ℕ → Bool
is_ready value = value % 2 == 1

-- the driver with empty queues
abbrev pub started : Driver → Driver
started d = record d { admin = empty_ends; io = empty_ends }

-- The driver's own commands, whose identifier is that of no slot: each creates a queue that is physically contiguous
-- (PC).
abbrev pub own_cid : ℕ
own_cid = slot_count

-- QID, and QSIZE, one less
abbrev pub queue_word : ℕ → ℕ
queue_word entries = queue_id Io + 2 ^ 16 * (entries - 1)

abbrev pub own_fields : ℕ → ℕ → ℕ → ℕ → SqeFields
own_fields code base word10 word11 = record {
  opcode = code;
  cid = own_cid;
  nsid = 0;
  prp1 = base;
  prp2 = 0;
  cdw10 = word10;
  cdw11 = word11;
  cdw12 = 0;
  cdw13 = 0;
  cdw14 = 0;
  cdw15 = 0;
}

abbrev pub create_completion_queue : SqeFields
create_completion_queue =
    own_fields (opcode_of CreateCompletionQueue) (completion_queue Io) (queue_word completion_entries) 1

-- its completions go to the completion queue of the same lane (CQID)
abbrev pub create_submission_queue : SqeFields
create_submission_queue =
    own_fields (opcode_of CreateSubmissionQueue) (submission_queue Io) (queue_word submission_entries)
    (1 + 2 ^ 16 * queue_id Io)

-- such a command is put, and the tail doorbell written
abbrev pub sent : Driver → Driver
sent d = record d { admin = put_ends d.admin }

abbrev pub send_calls : Ends → SqeFields → List Call
send_calls e command =
    Stores (command_place Admin e.tail.put) (submission_entry command)
    ∷ Writes (tail_doorbell Admin) (tail_of (put_ends e))
    ∷ []

-- whether an entry is the next completion, new, and answers such a command
abbrev pub answers_own : Ends → List ℕ → Bool
answers_own e entry = (sq_id entry == queue_id Admin) && ((cid entry == own_cid) && (sq_head entry == tail_of e))

abbrev pub own_of : Ends → Option (List ℕ) → Option (List ℕ)
own_of e None = None
own_of e (Some entry) = if answers_own e entry then Some entry else None

-- the device gets at most this number of turns, until a look after one of them finds the answer to such a command
unfoldable pub Awaits : {S : Type 0} → (S → Call → S → Type 0) → Ends → ℕ → S → Option (List ℕ) → S → Type 0
Awaits step e zero old answer new = (answer ≡ None) × (new ≡ old)
Awaits {S} step e (suc n) old answer new =
    (mid : S) × (seen : Option (List ℕ)) × Calls step old (Turns ∷ look Admin e seen ∷ []) mid
    × MatchOption (own_of e seen) (Awaits step e n mid answer new) (λ found. (answer ≡ Some found) × (new ≡ mid))

-- it is consumed, and its head doorbell is written
abbrev pub heard_own : Driver → List ℕ → Driver
heard_own d entry = record d { admin = consumed_ends d.admin (sq_head entry) }

abbrev pub heard_calls : Ends → List ℕ → List Call
heard_calls e entry = Writes (head_doorbell Admin) (head_of (consumed_ends e (sq_head entry))) ∷ []

abbrev pub Hears :
    {S : Type 0} → (S → Call → S → Type 0) → Driver → Option (List ℕ) → S → Option Status → Driver → S → Type 0
Hears step d None old result d' new = (result ≡ None) × (d' ≡ d) × (new ≡ old)
Hears step d (Some entry) old result d' new =
    (result ≡ Some (status entry)) × (d' ≡ heard_own d entry) × Calls step old (heard_calls d.admin entry) new

-- Such a command is put and rung; the driver waits for its answer for at most four turns, and consumes it. The result
-- is the answer's status, if one came.
unfoldable pub Creates :
    {S : Type 0} → (S → Call → S → Type 0) → SqeFields → Driver → S → Option Status → Driver → S → Type 0
Creates {S} step command d old result d' new =
    (rung : S) × (answer : Option (List ℕ)) × (seen : S)
    × Calls step old (send_calls d.admin command) rung
    × Awaits step (sent d).admin 4 rung answer seen
    × Hears step (sent d) answer seen result d' new

-- the fault of the answer to such a command, unless it succeeded
abbrev pub fault_of : Option Status → Option UpFault
fault_of None = Some NoAnswer
fault_of (Some s) = if is_success s then None else Some (Refused s)

-- the submission queue is created, unless the completion queue was not
abbrev pub Concludes : Option UpFault → Result (Unit {0}) UpFault → Driver → Driver → Type 0
Concludes None result d d' = (result ≡ Ok tt) × (d' ≡ record d { state = Up })
Concludes (Some fault) result d d' = (result ≡ Err fault) × (d' ≡ d)

abbrev pub CreatesSubmissions :
    {S : Type 0} → (S → Call → S → Type 0) → Option UpFault → Driver → S → Result (Unit {0}) UpFault → Driver → S
    → Type 0
CreatesSubmissions step (Some fault) d old result d' new = (result ≡ Err fault) × (d' ≡ d) × (new ≡ old)
CreatesSubmissions step None d old result d' new =
    (answer : Option Status) × (left : Driver) × Creates step create_submission_queue d old answer left new
    × Concludes (fault_of answer) result left d'

-- a ready controller creates both queues, on command
abbrev pub CreatesBoth :
    {S : Type 0} → (S → Call → S → Type 0) → Bool → Driver → S → Result (Unit {0}) UpFault → Driver → S → Type 0
CreatesBoth step false d old result d' new = (result ≡ Err NotReady) × (d' ≡ d) × (new ≡ old)
CreatesBoth {S} step true d old result d' new =
    (answer : Option Status) × (left : Driver) × (mid : S)
    × Creates step create_completion_queue d old answer left mid
    × CreatesSubmissions step (fault_of answer) left mid result d' new

-- the state of the driver, which was down, after that
abbrev pub risen_state : Result (Unit {0}) UpFault → State
risen_state (Ok u) = Up
risen_state (Err fault) = Down

-- a driver that is down comes up, or returns why not
unfoldable pub Rises :
    {S : Type 0} → (S → Call → S → Type 0) → Driver → S → Result (Unit {0}) UpFault → Driver → S → Type 0
Rises {S} step d old result d' new =
    (value : ℕ) × (on : S) × Calls step old (start_calls value) on
    × CreatesBoth step (is_ready value) (started d) on result d' new
