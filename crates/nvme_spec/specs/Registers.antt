-- The registers of a controller (Base Specification: Controller Registers, that is CAP, VS, CC, CSTS, AQA, ASQ, ACQ and
-- the doorbells; Controller Initialization; Controller Shutdown), in accesses of 32 bits. The supported values are this
-- subsystem's choice within the standard's.
use Rattle.std.specs.Prelude.{
  ◌≡◌,
  ℕ,
  ◌+◌,
  ◌-◌,
  ◌*◌,
  ◌/◌,
  ◌%◌,
  ◌^◌,
  ◌==◌,
  nat_lt,
  nat_le,
  Bool,
  true,
  false,
  not,
  ◌&&◌,
  ◌||◌,
  if◌then◌else◌,
  List,
  [],
  ◌∷◌,
  Option,
  None,
  Some,
  find,
  option_map,
  unwrap_or,
}
use Rattle.nvme_wire.specs.Entry.{bits}
use Rattle.nvme_spec.specs.Memory.{window_size}
use Rattle.nvme_spec.specs.declared.registers.RegEffect.{RegEffect}
use Rattle.nvme_spec.specs.declared.registers.RegEffect.TheVariants.{Nothing, Enable, Disable, Shutdown, SqTail, CqHead}
use Rattle.nvme_spec.specs.declared.registers.ControllerState.{ControllerState}
use Rattle.nvme_spec.specs.declared.registers.ControllerState.TheVariants.{Off, Ready, ShutDown, Failed}
use Rattle.nvme_spec.specs.declared.registers.AdminQueues.{AdminQueues}

-- Controller Configuration, the state that Controller Status shows, and the Admin Queue Attributes with the addresses
-- of the admin submission and completion queue.
pub record Registers : Type 0 where
  pub cc : ℕ
  pub state : ControllerState
  pub aqa : ℕ
  pub asq : ℕ
  pub acq : ℕ

-- a controller that was never enabled
abbrev pub initial_registers : Registers
initial_registers = record { cc = 0; state = Off; aqa = 0; asq = 0; acq = 0 }

-- Controller Capabilities: at most 64 entries a queue, contiguous queues required, the NVM command set, pages of 4 KiB
abbrev pub capabilities_low : ℕ
capabilities_low = 0x0101003f

abbrev pub capabilities_high : ℕ
capabilities_high = 0x00000020

-- Version 2.0
abbrev pub version : ℕ
version = 0x00020000

-- Controller Status: RDY in bit 0, CFS in bit 1, SHST in bits 3:2, 10b after a shutdown
abbrev pub status_of : ControllerState → ℕ
status_of Off = 0
status_of Ready = 1
status_of ShutDown = 9
status_of Failed = 2

-- RDY is 1
abbrev pub is_ready : ControllerState → Bool
is_ready Off = false
is_ready Ready = true
is_ready ShutDown = true
is_ready Failed = false

-- the registers that have a value, by offset
abbrev pub readable : Registers → List (ℕ × ℕ)
readable r =
    (0x00, capabilities_low) ∷ (0x04, capabilities_high)
    ∷ (0x08, version)
    ∷ (0x14, r.cc)
    ∷ (0x1c, status_of r.state)
    ∷ (0x24, r.aqa)
    ∷ (0x28, r.asq % 2 ^ 32) ∷ (0x2c, r.asq / 2 ^ 32)
    ∷ (0x30, r.acq % 2 ^ 32) ∷ (0x34, r.acq / 2 ^ 32)
    ∷ []

-- the value of a read: 0 at every other offset
unfoldable pub value_at : Registers → ℕ → ℕ
value_at r offset =
    let found = find (λ (entry : ℕ × ℕ). entry.0 == offset) (readable r) in
    unwrap_or (option_map (λ (entry : ℕ × ℕ). entry.1) found) 0

-- The fields of CC and AQA.

-- Enable
abbrev pub is_enabled : ℕ → Bool
is_enabled cc = bits cc 0 0 == 1

-- I/O Command Set Selected, Memory Page Size and Arbitration Mechanism Selected
abbrev pub command_set : ℕ → ℕ
command_set cc = bits cc 6 4

abbrev pub page_size : ℕ → ℕ
page_size cc = bits cc 10 7

abbrev pub arbitration : ℕ → ℕ
arbitration cc = bits cc 13 11

-- Shutdown Notification: 01b is a normal shutdown, 10b an abrupt one
abbrev pub notification : ℕ → ℕ
notification cc = bits cc 15 14

abbrev pub is_shutdown : ℕ → Bool
is_shutdown cc = notification cc == 1 || notification cc == 2

-- I/O Submission and Completion Queue Entry Size, as powers of two
abbrev pub submission_entry_size : ℕ → ℕ
submission_entry_size cc = bits cc 19 16

abbrev pub completion_entry_size : ℕ → ℕ
completion_entry_size cc = bits cc 23 20

-- Admin Submission and Completion Queue Size, zero-based
abbrev pub admin_submission_size : ℕ → ℕ
admin_submission_size aqa = bits aqa 11 0 + 1

abbrev pub admin_completion_size : ℕ → ℕ
admin_completion_size aqa = bits aqa 27 16 + 1

-- a queue with this number of entries of this width, at this address, can be an admin queue
abbrev pub is_admin_queue : ℕ → ℕ → ℕ → Bool
is_admin_queue base entries width =
    nat_le 2 entries && nat_le entries 64 && base % 4096 == 0 && nat_le (base + width * entries) window_size

-- pages of 4 KiB, the NVM command set, round robin, entries of 64 and of 16 bytes
abbrev pub is_supported : ℕ → Bool
is_supported cc =
    page_size cc == 0 && command_set cc == 0 && arbitration cc == 0
    && submission_entry_size cc == 6 && completion_entry_size cc == 4

-- the controller can be enabled with these values
unfoldable pub can_enable : Registers → Bool
can_enable r =
    is_supported r.cc
    && is_admin_queue r.asq (admin_submission_size r.aqa) 64
    && is_admin_queue r.acq (admin_completion_size r.aqa) 16

-- the admin queues, if the controller is ready
abbrev pub admin_queues : Registers → Option AdminQueues
admin_queues r =
    if is_ready r.state
    then Some (record {
      sq_base = r.asq;
      sq_size = admin_submission_size r.aqa;
      cq_base = r.acq;
      cq_size = admin_completion_size r.aqa;
    })
    else None

-- The registers after a write, and its effect on the controller.
pub record Written : Type 0 where
  pub registers : Registers
  pub effect : RegEffect

abbrev pub written : Registers → RegEffect → Written
written r what = record { registers = r; effect = what }

-- the state of a controller that becomes ready with this configuration
abbrev pub ready_state : ℕ → ControllerState
ready_state cc = if is_shutdown cc then ShutDown else Ready

-- EN goes from 0 to 1
abbrev pub enabled : Registers → Written
enabled r =
    if can_enable r then written (record r { state = ready_state r.cc }) Enable
    else written (record r { state = Failed }) Nothing

-- only SHN is changed
abbrev pub with_notification : ℕ → ℕ → ℕ
with_notification cc v = cc % 2 ^ 14 + 2 ^ 14 * notification v + 2 ^ 16 * (cc / 2 ^ 16)

-- EN stays 1: a ready controller may get a shutdown notification, and is shut down until it is reset
abbrev pub notified : Registers → ℕ → Written
notified r v =
    let kept : Registers = record r { cc = with_notification r.cc v } in
    if is_ready r.state && is_shutdown v then written (record kept { state = ShutDown }) Shutdown
    else written kept Nothing

-- a write of CC: if EN was 0 or becomes 0, the value is stored as written
unfoldable pub configured : Registers → ℕ → Written
configured r v =
    if is_enabled r.cc
    then (if is_enabled v then notified r v else written (record r { cc = v; state = Off }) Disable)
    else (if is_enabled v then enabled (record r { cc = v }) else written (record r { cc = v }) Nothing)

-- a number of 64 bits after a write of its low or high half
abbrev pub with_low : ℕ → ℕ → ℕ
with_low n v = n / 2 ^ 32 * 2 ^ 32 + v

abbrev pub with_high : ℕ → ℕ → ℕ
with_high n v = n % 2 ^ 32 + 2 ^ 32 * v

-- the registers of the admin queues can be written while EN is 0
unfoldable pub prepared : Registers → ℕ → ℕ → Registers
prepared r offset v =
    if is_enabled r.cc then r
    else (if offset == 0x24 then record r { aqa = v }
    else (if offset == 0x28 then record r { asq = with_low r.asq v }
    else (if offset == 0x2c then record r { asq = with_high r.asq v }
    else (if offset == 0x30 then record r { acq = with_low r.acq v }
    else (if offset == 0x34 then record r { acq = with_high r.acq v }
    else r)))))

-- the value of a doorbell: bits 15:0
abbrev pub doorbell_value : ℕ → ℕ
doorbell_value v = bits v 15 0

-- the doorbells: of queue y the tail at 1000h + 8y and the head at 1004h + 8y. There are queues 0 to 4
unfoldable pub doorbell : ℕ → ℕ → RegEffect
doorbell offset v =
    let queue = (offset - 0x1000) / 8 in
    if nat_lt offset 0x1000 || nat_lt 4 queue then Nothing
    else (if offset % 8 == 0 then SqTail queue (doorbell_value v)
    else (if offset % 8 == 4 then CqHead queue (doorbell_value v)
    else Nothing))

-- a write. A doorbell rings if the controller is ready; all other writes are ignored
unfoldable pub after_write : Registers → ℕ → ℕ → Written
after_write r offset v =
    if offset == 0x14 then configured r v
    else written (prepared r offset v) (if is_ready r.state then doorbell offset v else Nothing)

-- several writes, one after the other, each an offset and a value
abbrev pub after_writes : Registers → List (ℕ × ℕ) → Registers
after_writes r [] = r
after_writes r (write ∷ rest) = after_writes (after_write r write.0 write.1).registers rest

-- CC.EN is 1 exactly if the controller isn't off
abbrev pub is_off : ControllerState → Bool
is_off Off = true
is_off Ready = false
is_off ShutDown = false
is_off Failed = false

abbrev pub ShowsItsState : Registers → Type 0
ShowsItsState r = is_enabled r.cc ≡ not (is_off r.state)
