-- A command that a host places as it is: one that no request expresses, such as those for a real device (Base
-- Specification: Abort, Asynchronous Event Request, Get Log Page, Set Features of the Host Identifier). Its placing is
-- that of a request with the same fields.
use Rattle.std.specs.Prelude.{
  ◌≡◌,
  ◌≤◌,
  slice_range,
  ℕ,
  ◌+◌,
  ◌==◌,
  nat_lt,
  not,
  if◌then◌else◌,
  List,
  [],
  ◌∷◌,
  length,
  is_none,
  slice_set,
  true,
  false,
  Option,
  None,
  Some,
}
use Rattle.nvme_wire.specs.Submission.{submission_entry, submission_of}
use Rattle.nvme_spec.specs.Bytes.{with_bytes}
use Rattle.nvme_spec.specs.Limits.{most_bytes}
use Rattle.nvme_spec.specs.Queues.{submission_room}
use Rattle.nvme_driver.specs.declared.host_command.HostCommand.{HostCommand}
use Rattle.nvme_driver.specs.declared.host_command.HostData.{HostData}
use Rattle.nvme_driver.specs.declared.host_command.HostData.TheVariants.{Unused, FromHost, ToHost}
use Rattle.nvme_driver.specs.declared.slots.Waiting.{Waiting}
use Rattle.nvme_driver.specs.declared.request.Request.{Request}
use Rattle.nvme_driver.specs.declared.faults.PlaceRefusal.{PlaceRefusal}
use Rattle.nvme_driver.specs.declared.faults.PlaceRefusal.TheVariants.{
  NotReady,
  BadRequest,
  NoSlot,
  RingFull,
  TicketsExhausted,
}
use Rattle.nvme_driver.specs.Calls.{Call, Stores, Calls}
use Rattle.nvme_driver.specs.Layout.{command_place, list_page, data_area}
use Rattle.nvme_driver.specs.Pointers.{stored_list, slot_transfer, IsContiguous}
use Rattle.nvme_driver.specs.Requests.{Asked, asked_of, is_bad}
use Rattle.nvme_driver.specs.Drivers.{
  Driver,
  ends,
  with_ends,
  put_ends,
  is_up,
  free_slot,
  ticket_count,
  entry_fields,
  place_refusal,
  placed,
  stores_of,
  placed_window,
}

-- the number of bytes that a command's data have, the bytes for the controller, and the number of bytes from there if
-- it succeeds
abbrev pub moved_by : HostData → ℕ
moved_by Unused = 0
moved_by (FromHost bytes) = length bytes.now
moved_by (ToHost count) = count

abbrev pub sent_by : HostData → List ℕ
sent_by Unused = []
sent_by (FromHost bytes) = bytes.now
sent_by (ToHost count) = []

abbrev pub received_by : HostData → ℕ
received_by Unused = 0
received_by (FromHost bytes) = 0
received_by (ToHost count) = count

abbrev pub asked_by_host : HostCommand → Asked
asked_by_host c = record {
  command = record {
    lane = c.lane;
    opcode = c.opcode;
    nsid = c.nsid;
    cdw10 = c.cdw10;
    cdw11 = c.cdw11;
    cdw12 = c.cdw12;
  };
  moved = moved_by c.payload;
  sent = sent_by c.payload;
  received = received_by c.payload;
}

-- the first test that refuses a command, if one does: a slot has room for 131,072 bytes
abbrev pub command_refusal : Driver → Asked → Option PlaceRefusal
command_refusal d a =
    if not (is_up d.state) then Some NotReady
    else (if nat_lt most_bytes a.moved then Some BadRequest
    else (if is_none (free_slot d) then Some NoSlot
    else (if submission_room (ends a.command.lane d).tail == 0 then Some RingFull
    else (if nat_lt d.next ticket_count then None else Some TicketsExhausted))))

-- the stores of its placing, in order: the data, the list at PRP entry 2, and the entry
abbrev pub command_entry_place : Driver → Asked → ℕ
command_entry_place d a = command_place a.command.lane (ends a.command.lane d).tail.put

abbrev pub command_stores : Driver → Asked → ℕ → List Call
command_stores d a slot =
    Stores (data_area slot) a.sent
    ∷ Stores (list_page slot) (stored_list slot a.moved)
    ∷ Stores (command_entry_place d a) (submission_entry (entry_fields a slot))
    ∷ []

abbrev pub command_window : Driver → List ℕ → Asked → ℕ → List ℕ
command_window d window a slot =
    with_bytes
    (with_bytes (with_bytes window (data_area slot) a.sent) (list_page slot) (stored_list slot a.moved))
    (command_entry_place d a) (submission_entry (entry_fields a slot))

-- the driver after a command was placed in a slot
abbrev pub waiting_command : Driver → Asked → Waiting
waiting_command d a = record {
  ticket = record { 0 = d.next };
  lane = a.command.lane;
  received = a.received;
  live = true;
}

abbrev pub placed_command : Driver → Asked → ℕ → Driver
placed_command d a slot =
    with_ends a.command.lane (put_ends (ends a.command.lane d))
    (record d { next = d.next + 1; slots = slice_set d.slots slot (Some (waiting_command d a)) })

-- A command was placed: in the lowest free slot, by these stores.
abbrev pub IsCommandPlaced : {S : Type 0} → (S → Call → S → Type 0) → Driver → Asked → S → Driver → S → Type 0
IsCommandPlaced step d a old d' new =
    (slot : ℕ) × (free_slot d ≡ Some slot) × (d' ≡ placed_command d a slot)
    × Calls step old (command_stores d a slot) new

-- The window after a placing: the entry is the command, the data are there, and if the command transfers data, the
-- entry's pointer has no fault and is the slot's data, byte after byte.
pub record HoldsCommand (d : Driver) (old new : List ℕ) (a : Asked) (slot : ℕ) : Type 0 where
  pub window : new ≡ command_window d old a slot
  pub says : submission_of (submission_entry (entry_fields a slot)) ≡ entry_fields a slot
  pub data_there : slice_range new (data_area slot) (data_area slot + length a.sent) ≡ a.sent
  pub pointer : 1 ≤ a.moved → IsContiguous (slot_transfer new slot a.moved)

abbrev pub HoldsItsCommand : Driver → List ℕ → List ℕ → Asked → Type 0
HoldsItsCommand d old new a = (slot : ℕ) × (free_slot d ≡ Some slot) × HoldsCommand d old new a slot

-- Placing a request is placing its command: the same driver, the same stores, the same window, and the same refusal of
-- a request that a command can express.
pub record IsCommand (d : Driver) (window : List ℕ) (request : Request) (slot : ℕ) : Type 0 where
  pub driver : placed d request slot ≡ placed_command d (asked_of request) slot
  pub stores : stores_of d request slot ≡ command_stores d (asked_of request) slot
  pub window_after : placed_window d window request slot ≡ command_window d window (asked_of request) slot
  pub refusal : is_bad request ≡ false → place_refusal d request ≡ command_refusal d (asked_of request)

abbrev pub RequestsAreCommands : Type 0
RequestsAreCommands = (d : Driver) (window : List ℕ) (request : Request) (slot : ℕ) → IsCommand d window request slot
