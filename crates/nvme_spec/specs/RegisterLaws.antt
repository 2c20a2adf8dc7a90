-- Statements of the laws on registers (Base Specification: Controller Configuration, Controller Status, Admin Queue
-- Attributes, Controller Initialization, Controller Shutdown, and the doorbells).
use Rattle.std.specs.Prelude.{◌≡◌, ℕ, ◌+◌, ◌*◌, ◌%◌, ◌≤◌, true, false, ◌↔◌, IfSome}
use Rattle.nvme_spec.specs.declared.registers.RegEffect.{RegEffect}
use Rattle.nvme_spec.specs.declared.registers.RegEffect.TheVariants.{Nothing, Enable, Disable, Shutdown, SqTail, CqHead}
use Rattle.nvme_spec.specs.declared.registers.ControllerState.TheVariants.{Ready, ShutDown}
use Rattle.nvme_spec.specs.declared.registers.AdminQueues.{AdminQueues}
use Rattle.nvme_spec.specs.Memory.{window_size}
use Rattle.nvme_spec.specs.Queues.{IsQueueSize}
use Rattle.nvme_spec.specs.Registers.{
  Registers,
  initial_registers,
  admin_queues,
  after_write,
  doorbell_value,
  is_ready,
  is_off,
  is_enabled,
  is_shutdown,
  ShowsItsState,
}

-- a queue with this number of entries of this width begins a page at this address, and is in host memory
pub record IsQueuePlace (base entries width : ℕ) : Type 0 where
  pub size : IsQueueSize entries
  pub page : base % 4096 ≡ 0
  pub inside : base + width * entries ≤ window_size

-- both admin queues do
pub record ArePlaced (q : AdminQueues) : Type 0 where
  pub submission : IsQueuePlace q.sq_base q.sq_size 64
  pub completion : IsQueuePlace q.cq_base q.cq_size 16

-- CC.EN is 0 exactly if the controller is off, and while RDY is 1 the admin queues are at valid places
pub record IsConsistent (r : Registers) : Type 0 where
  pub state : ShowsItsState r
  pub queues : IfSome (admin_queues r) ArePlaced

-- So it is from the beginning, whatever is written.
abbrev pub BeginsConsistent : Type 0
BeginsConsistent = IsConsistent initial_registers

abbrev pub StaysConsistent : Type 0
StaysConsistent = (r : Registers) → (offset v : ℕ) → IsConsistent r → IsConsistent (after_write r offset v).registers

-- RDY goes from 0 to 1
abbrev pub BecomesReady : Registers → Registers → Type 0
BecomesReady old new = (is_ready old.state ≡ false) × (is_ready new.state ≡ true)

-- a controller that was enabled is off
abbrev pub IsReset : Registers → Registers → Type 0
IsReset old new = (is_off old.state ≡ false) × (is_off new.state ≡ true)

-- a write of CC finds RDY 1, leaves EN 1 and has a shutdown notification
abbrev pub IsToldToShutDown : Registers → ℕ → ℕ → Type 0
IsToldToShutDown old offset v =
    (offset ≡ 0x14) × (is_ready old.state ≡ true) × (is_enabled v ≡ true) × (is_shutdown v ≡ true)

-- a doorbell rings exactly if RDY is 1 and the write is to a doorbell of queues 0 to 4
abbrev pub TailRings : Registers → ℕ → ℕ → RegEffect → Type 0
TailRings old offset v effect =
    (q tail : ℕ) → (effect ≡ SqTail q tail)
    ↔ ((offset ≡ 0x1000 + 8 * q) × (q ≤ 4) × (tail ≡ doorbell_value v) × (is_ready old.state ≡ true))

abbrev pub HeadRings : Registers → ℕ → ℕ → RegEffect → Type 0
HeadRings old offset v effect =
    (q head : ℕ) → (effect ≡ CqHead q head)
    ↔ ((offset ≡ 0x1004 + 8 * q) × (q ≤ 4) × (head ≡ doorbell_value v) × (is_ready old.state ≡ true))

-- what the effect of a write implies for the controller
pub record TellsItsEffect (old : Registers) (offset v : ℕ) (new : Registers) (effect : RegEffect) : Type 0 where
  pub enable : (effect ≡ Enable) ↔ BecomesReady old new
  pub disable : (effect ≡ Disable) ↔ IsReset old new
  pub shutdown : (effect ≡ Shutdown) ↔ IsToldToShutDown old offset v
  pub shut_down : effect ≡ Shutdown → new.state ≡ ShutDown
  pub told : old.state ≡ Ready → new.state ≡ ShutDown → effect ≡ Shutdown
  pub tail : TailRings old offset v effect
  pub head : HeadRings old offset v effect

abbrev pub EffectsTell : Type 0
EffectsTell =
    (r : Registers) → (offset v : ℕ) → IsConsistent r
    → TellsItsEffect r offset v (after_write r offset v).registers (after_write r offset v).effect

-- a doorbell that rings is one of a possible queue
abbrev pub NamesQueue : RegEffect → Type 0
NamesQueue Nothing = Unit {0}
NamesQueue Enable = Unit {0}
NamesQueue Disable = Unit {0}
NamesQueue Shutdown = Unit {0}
NamesQueue (SqTail q tail) = q ≤ 4
NamesQueue (CqHead q head) = q ≤ 4

abbrev pub DoorbellsNameQueues : Type 0
DoorbellsNameQueues = (r : Registers) → (offset v : ℕ) → NamesQueue (after_write r offset v).effect
