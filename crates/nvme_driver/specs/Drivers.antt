-- A driver: its requests and its ends of the queues; the effects of placing, ringing and resetting (Base Specification:
-- Submission Queue and Completion Queue, Command Identifier; Controller Level Reset). A lane is a queue pair of the
-- driver, the admin or the I/O queues.
use Rattle.std.specs.Prelude.{
  ◌≡◌,
  ◌≤◌,
  slice_range,
  ℕ,
  ◌+◌,
  ◌^◌,
  ◌==◌,
  nat_lt,
  Bool,
  true,
  false,
  not,
  if◌then◌else◌,
  List,
  [],
  ◌∷◌,
  length,
  map,
  replicate,
  position,
  is_none,
  slice_set,
  Option,
  None,
  Some,
}
use Rattle.nvme_wire.specs.declared.sqe.fields.SqeFields.{SqeFields}
use Rattle.nvme_wire.specs.Submission.{submission_entry, submission_of, opcode}
use Rattle.nvme_spec.specs.Bytes.{with_bytes}
use Rattle.nvme_spec.specs.Queues.{
  SubmissionTail,
  CompletionHead,
  empty_submission_tail,
  empty_completion_head,
  submission_room,
  after_put,
  slot_of,
}
use Rattle.nvme_spec.specs.Commands as commands
use Rattle.nvme_spec.specs.AdminCommands as admin_commands
use Rattle.nvme_driver.specs.declared.lane.Lane.{Lane}
use Rattle.nvme_driver.specs.declared.lane.Lane.TheVariants.{Admin, Io}
use Rattle.nvme_driver.specs.declared.state.State.{State}
use Rattle.nvme_driver.specs.declared.state.State.TheVariants.{Down, Up, Failed}
use Rattle.nvme_driver.specs.declared.slots.Waiting.{Waiting}
use Rattle.nvme_driver.specs.declared.request.Request.{Request}
use Rattle.nvme_driver.specs.declared.faults.PlaceRefusal.{PlaceRefusal}
use Rattle.nvme_driver.specs.declared.faults.PlaceRefusal.TheVariants.{
  NotReady,
  BadRequest,
  NoSlot,
  RingFull,
  TicketsExhausted,
}
use Rattle.nvme_driver.specs.Calls.{Call, Stores, Writes, Calls}
use Rattle.nvme_driver.specs.Layout.{
  submission_entries,
  completion_entries,
  slot_count,
  command_place,
  tail_doorbell,
  list_page,
  data_area,
}
use Rattle.nvme_driver.specs.Pointers.{first_entry, second_entry, stored_list, slot_transfer, IsContiguous}
use Rattle.nvme_driver.specs.Requests.{Asked, asked_of, is_bad}

-- the host's ends of a lane's two queues
pub record Ends : Type 0 where
  pub tail : SubmissionTail
  pub head : CompletionHead

abbrev pub empty_ends : Ends
empty_ends =
    record { tail = empty_submission_tail submission_entries; head = empty_completion_head completion_entries }

-- A driver: its state; the next ticket, 2 ^ 64 if none is left; the slots, each with a request that has not been
-- delivered, live or aborted; and its ends of each lane.
pub record Driver : Type 0 where
  pub state : State
  pub next : ℕ
  pub slots : List (Option Waiting)
  pub admin : Ends
  pub io : Ends

-- a driver whose first ticket is this one
abbrev pub new_driver : ℕ → Driver
new_driver first =
    record { state = Down; next = first; slots = replicate slot_count None; admin = empty_ends; io = empty_ends }

abbrev pub is_up : State → Bool
is_up Down = false
is_up Up = true
is_up Failed = false

abbrev pub is_down : State → Bool
is_down Down = true
is_down Up = false
is_down Failed = false

-- its ends of one lane, and the driver with other ends there
abbrev pub ends : Lane → Driver → Ends
ends Admin d = d.admin
ends Io d = d.io

abbrev pub with_ends : Lane → Ends → Driver → Driver
with_ends Admin e d = record d { admin = e }
with_ends Io e d = record d { io = e }

-- the number of tickets: the last one is one less
abbrev pub ticket_count : ℕ
ticket_count = 2 ^ 64

-- the lowest slot that is free
abbrev pub free_slot : Driver → Option ℕ
free_slot d = position is_none d.slots

abbrev pub lane_of : Request → Lane
lane_of request = (asked_of request).command.lane

-- the first test that refuses a request, if one does
abbrev pub place_refusal : Driver → Request → Option PlaceRefusal
place_refusal d request =
    if not (is_up d.state) then Some NotReady
    else (if is_bad request then Some BadRequest
    else (if is_none (free_slot d) then Some NoSlot
    else (if submission_room (ends (lane_of request) d).tail == 0 then Some RingFull
    else (if nat_lt d.next ticket_count then None else Some TicketsExhausted))))

-- the fields of a request's command in a slot: the slot's number is the Command Identifier
abbrev pub entry_fields : Asked → ℕ → SqeFields
entry_fields a slot = record {
  opcode = a.command.opcode;
  cid = slot;
  nsid = a.command.nsid;
  prp1 = first_entry slot a.moved;
  prp2 = second_entry slot a.moved;
  cdw10 = a.command.cdw10;
  cdw11 = a.command.cdw11;
  cdw12 = a.command.cdw12;
  cdw13 = 0;
  cdw14 = 0;
  cdw15 = 0;
}

abbrev pub entry_of : Request → ℕ → List ℕ
entry_of request slot = submission_entry (entry_fields (asked_of request) slot)

-- the stores of a placing, in order: the data, the list at PRP entry 2, and the entry
abbrev pub entry_place : Driver → Request → ℕ
entry_place d request = command_place (lane_of request) (ends (lane_of request) d).tail.put

abbrev pub stores_of : Driver → Request → ℕ → List Call
stores_of d request slot =
    Stores (data_area slot) (asked_of request).sent
    ∷ Stores (list_page slot) (stored_list slot (asked_of request).moved)
    ∷ Stores (entry_place d request) (entry_of request slot)
    ∷ []

-- the window after these stores
abbrev pub placed_window : Driver → List ℕ → Request → ℕ → List ℕ
placed_window d window request slot =
    with_bytes
    (with_bytes (with_bytes window (data_area slot) (asked_of request).sent) (list_page slot)
    (stored_list slot (asked_of request).moved))
    (entry_place d request) (entry_of request slot)

-- the driver after a request was placed in a slot
abbrev pub put_ends : Ends → Ends
put_ends e = record e { tail = after_put e.tail }

abbrev pub waiting_of : Driver → Request → Waiting
waiting_of d request = record {
  ticket = record { 0 = d.next };
  lane = lane_of request;
  received = (asked_of request).received;
  live = true;
}

abbrev pub placed : Driver → Request → ℕ → Driver
placed d request slot =
    with_ends (lane_of request) (put_ends (ends (lane_of request) d))
    (record d { next = d.next + 1; slots = slice_set d.slots slot (Some (waiting_of d request)) })

-- A request was placed: in the lowest free slot, by these stores.
abbrev pub IsPlaced : {S : Type 0} → (S → Call → S → Type 0) → Driver → Request → S → Driver → S → Type 0
IsPlaced step d request old d' new =
    (slot : ℕ) × (free_slot d ≡ Some slot) × (d' ≡ placed d request slot)
    × Calls step old (stores_of d request slot) new

-- The window after a placing: the entry is the request's command, the data are there, and if the request transfers
-- data, the entry's pointer has no fault and is the slot's data, byte after byte.
pub record HoldsRequest (d : Driver) (old new : List ℕ) (request : Request) (slot : ℕ) : Type 0 where
  pub window : new ≡ placed_window d old request slot
  pub says : submission_of (entry_of request slot) ≡ entry_fields (asked_of request) slot
  pub data_there :
      slice_range new (data_area slot) (data_area slot + length (asked_of request).sent) ≡ (asked_of request).sent
  pub pointer : 1 ≤ (asked_of request).moved → IsContiguous (slot_transfer new slot (asked_of request).moved)

-- the number of bytes that the command of an entry transfers, by the definitions of its lane's commands
abbrev pub entry_length : Lane → List ℕ → ℕ
entry_length Io entry = commands.data_length_of (commands.command_of (opcode entry)) entry
entry_length Admin entry = admin_commands.data_length_of (admin_commands.command_of (opcode entry)) entry

-- a controller that reads an entry with these fields transfers as many bytes as the request
abbrev pub EntriesMoveTheirData : Type 0
EntriesMoveTheirData =
    (request : Request) (slot : ℕ) (entry : List ℕ) → is_bad request ≡ false
    → submission_of entry ≡ entry_fields (asked_of request) slot
    → entry_length (lane_of request) entry ≡ (asked_of request).moved

-- the window of a placed request, for any slot
abbrev pub HoldsItsRequest : Driver → List ℕ → List ℕ → Request → Type 0
HoldsItsRequest d old new request = (slot : ℕ) × (free_slot d ≡ Some slot) × HoldsRequest d old new request slot

-- the doorbells of a ringing, if the driver is up: both tails
abbrev pub tail_of : Ends → ℕ
tail_of e = slot_of submission_entries e.tail.put

abbrev pub ring_calls : Driver → List Call
ring_calls d =
    if is_up d.state
    then Writes (tail_doorbell Admin) (tail_of d.admin) ∷ Writes (tail_doorbell Io) (tail_of d.io) ∷ []
    else []

-- a request after its controller was reset
abbrev pub abort : Option Waiting → Option Waiting
abort None = None
abort (Some w) = Some (record w { live = false })

-- the driver after a reset, and the register write of a reset
abbrev pub after_reset : Driver → Driver
after_reset d =
    record d { state = Down; slots = map abort d.slots; admin = empty_ends; io = empty_ends }

abbrev pub cc : ℕ
cc = 0x14

abbrev pub reset_calls : List Call
reset_calls = Writes cc 0 ∷ []
