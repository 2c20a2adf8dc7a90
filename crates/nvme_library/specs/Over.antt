-- An execution over blocks that the program brings.
use Rattle.std.specs.Prelude.{◌≡◌, ◌⊎◌, ◌/◌, ℕ, Bool, length, min, Option, Some, None}
use Rattle.nvme_spec.specs.Blocks.{Device}
use Rattle.nvme_brought.specs.declared.room.Room.{Room}
use Rattle.nvme_lent.specs.Bringing.{Brings, GivesRoom, IsRefused}
use Rattle.nvme_lent.specs.Bytes.{as_lent}
use Rattle.nvme_lent.specs.OwnOrLent.{device_of}
use Rattle.nvme_lent.specs.declared.bytes.LentBytes.{LentBytes}
use Rattle.nvme_lent.specs.declared.either.NotBrought.{NotBrought}
use Rattle.nvme_lent.specs.declared.either.NotBrought.TheVariants.{InMemory, Outside}
use Rattle.nvme_machine.specs.declared.bare.BareSeen.{BareSeen}
use Rattle.nvme_machine.specs.Subsystems.{Subsystem}
use Rattle.nvme_library.specs.declared.over.ExecutedOver.{ExecutedOver}
use Rattle.nvme_library.specs.Answers.{answer_of, plain}
use Rattle.nvme_library.specs.Events.{Executing}
use Rattle.nvme_library.specs.Holding.{Inside}

-- a state over another device
abbrev pub over_device : Subsystem → Device → Subsystem
over_device s device = record s { device = device }

-- The blocks of the room become the content of the medium there. The command is executed as `nvmesim_execute` does it,
-- over this content. Then the room is taken back, and the content stays.
pub record ExecutingOver (cntlid i : ℕ) (room : Room) (old : Inside) (seen : BareSeen) (left : Room) (new : Inside)
    : Type 0 where
  pub earlier : Room
  pub before : Inside
  pub after : Inside
  pub old_is : old.state.device ≡ device_of old.medium
  pub brings : Brings room old.medium earlier before.medium
  pub before_is : before.state ≡ over_device old.state (device_of before.medium)
  pub executes : Executing cntlid i before seen after
  pub after_is : after.state.device ≡ device_of after.medium
  pub gives : GivesRoom after.medium left new.medium
  pub new_is : new.state ≡ over_device after.state (device_of new.medium)

abbrev pub not_executed : ℕ → ExecutedOver
not_executed what = record { at_hand = 0; answer = plain what }

abbrev pub refusal_number : NotBrought → ℕ
refusal_number (InMemory room) = 39
refusal_number (Outside room) = 18

-- the room of borrowed bytes
pub record IsRoom (lent : LentBytes) (first brought : ℕ) (flushes : Bool) (room : Room) : Type 0 where
  pub bytes : as_lent room.buffer ≡ lent
  pub first_is : room.first ≡ first
  pub at_hand : room.at_hand ≡ min brought (length lent.items / 512)
  pub flushes_is : room.flushes ≡ flushes

-- the command is executed
pub record WasExecuted (cntlid i : ℕ) (room : Room) (old : Inside) (result : ExecutedOver) (left : Room) (new : Inside)
    : Type 0 where
  pub seen : BareSeen
  pub executes : ExecutingOver cntlid i room old seen left new
  pub result_is : result ≡ record { at_hand = left.at_hand; answer = answer_of seen }

-- the medium does not take the room, and nothing changes
pub record WasRefused (room : Room) (old : Inside) (result : ExecutedOver) (left : Room) (new : Inside) : Type 0 where
  pub why : NotBrought
  pub refused : IsRefused room old.medium why
  pub result_is : result ≡ not_executed (refusal_number why)
  pub left_is : left ≡ room
  pub new_is : new ≡ old

abbrev pub ExecutesIn : ℕ → ℕ → Room → Inside → ExecutedOver → Room → Inside → Type 0
ExecutesIn cntlid i room old result left new =
    WasExecuted cntlid i room old result left new ⊎ WasRefused room old result left new

-- Either way C has its bytes again.
abbrev pub OverFrom : ℕ → ℕ → Room → Option Inside → ExecutedOver → Option Inside → Option LentBytes → Type 0
OverFrom cntlid i room None result new returned =
    (result ≡ not_executed 16) × (new ≡ None) × (returned ≡ Some (as_lent room.buffer))
OverFrom cntlid i room (Some old) result None returned = ⊥
OverFrom cntlid i room (Some old) result (Some new) returned =
    (left : Room) × ExecutesIn cntlid i room old result left new × (returned ≡ Some (as_lent left.buffer))

-- A command is executed over blocks that C brings in borrowed bytes.
abbrev pub ExecutesOver : ℕ → ℕ → LentBytes → ℕ → ℕ → Bool → Option Inside → ExecutedOver → Option Inside
    → Option LentBytes → Type 0
ExecutesOver cntlid i lent first brought flushes old result new returned =
    (room : Room) × IsRoom lent first brought flushes room × OverFrom cntlid i room old result new returned
