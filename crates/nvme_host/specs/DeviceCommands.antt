-- The commands of a driver that are no requests (Base Specification: Set Features, Host Identifier, Asynchronous Event
-- Configuration; Asynchronous Event Request; Get Log Page; Abort).
use Rattle.std.specs.Prelude.{
  ℕ,
  ◌+◌,
  ◌-◌,
  ◌*◌,
  ◌^◌,
  ◌==◌,
  ◌||◌,
  nat_lt,
  Bool,
  if◌then◌else◌,
  List,
  length,
  position,
  is_none,
  Option,
  None,
  Some,
}
use Rattle.nvme_driver.specs.declared.lane.Lane.{Lane}
use Rattle.nvme_driver.specs.declared.lane.Lane.TheVariants.{Admin}
use Rattle.nvme_driver.specs.declared.slots.Waiting.{Waiting}
use Rattle.nvme_driver.specs.Layout.{queue_id, slot_count}
use Rattle.nvme_driver.specs.Polls.{waiting_at}
use Rattle.nvme_driver.specs.Requests.{Asked, Command, bit, receiving, sending, without_data}
use Rattle.nvme_host.specs.declared.open_driver.OpenDriver.{OpenDriver}
use Rattle.nvme_host.specs.Calls.{bears_live}
use Rattle.nvme_host.specs.Refusals.{first_of, stopped_by}

-- an admin command, by its opcode, namespace and double words 10 and 11
abbrev pub admin_command : ℕ → ℕ → ℕ → ℕ → Command
admin_command number namespace word10 word11 = record {
  lane = Admin;
  opcode = number;
  nsid = namespace;
  cdw10 = word10;
  cdw11 = word11;
  cdw12 = 0;
}

-- Set Features (09h) of the Host Identifier (81h), of 128 bits (EXHID)
abbrev pub identifying : List ℕ → Asked
identifying bytes = sending (admin_command 9 0 0x81 1) (length bytes) bytes

-- Set Features (09h) of the Asynchronous Event Configuration (0Bh): a bit for each event that is reported
abbrev pub configuring_events : ℕ → Asked
configuring_events events = without_data (admin_command 9 0 0x0b events)

-- Asynchronous Event Request (0Ch)
abbrev pub awaiting_event : Asked
awaiting_event = without_data (admin_command 12 0 0 0)

-- Get Log Page (02h): LID in bits 7:0 of double word 10, RAE in bit 15, NUMDL from bit 16
abbrev pub reading_log : ℕ → ℕ → Bool → ℕ → Asked
reading_log nsid lid retain dwords =
    receiving (admin_command 2 nsid (lid + 2 ^ 15 * bit retain + 2 ^ 16 * (dwords - 1)) 0) (4 * dwords)

-- Abort (08h) of the command with this identifier: SQID in bits 15:0 of double word 10, CID from bit 16
abbrev pub aborting : Lane → ℕ → Asked
aborting lane slot = without_data (admin_command 8 0 (queue_id lane + 2 ^ 16 * slot) 0)

-- of the 24 slots, that of the request with a ticket that waits and was not aborted
abbrev pub of_count : Option ℕ → Option ℕ
of_count None = None
of_count (Some slot) = if nat_lt slot slot_count then Some slot else None

abbrev pub live_slot : ℕ → List (Option Waiting) → Option ℕ
live_slot ticket slots = of_count (position (λ x. bears_live ticket x) slots)

-- the lane of the request in a slot; and the Abort of that request
abbrev pub lane_at : Option Waiting → Lane
lane_at None = Admin
lane_at (Some w) = w.lane

abbrev pub aborting_in : List (Option Waiting) → Option ℕ → Asked
aborting_in slots None = aborting Admin 0
aborting_in slots (Some slot) = aborting (lane_at (waiting_at slots slot)) slot

-- Why a log page is not read: 27, no command can express the length; and why a request is not aborted: 34, none with
-- this ticket waits.
abbrev pub log_refusal : ℕ → OpenDriver → Option ℕ
log_refusal dwords h = first_of (stopped_by h) (if (dwords == 0) || nat_lt 32768 dwords then Some 27 else None)

abbrev pub abort_refusal : ℕ → OpenDriver → Option ℕ
abort_refusal ticket h = first_of (stopped_by h) (if is_none (live_slot ticket h.driver.slots) then Some 34 else None)
