-- Blocks that are brought to a medium and taken back.
use Rattle.std.specs.Prelude.{◌≡◌, ◌<◌, ◌+◌}
use Rattle.nvme_brought.specs.Brought.{content_of, with_room, IsEmpty, HasNothing}
use Rattle.nvme_brought.specs.declared.medium.BroughtMedium.{BroughtMedium}
use Rattle.nvme_brought.specs.declared.room.Room.{Room}
use Rattle.nvme_lent.specs.declared.either.NotBrought.{NotBrought}
use Rattle.nvme_lent.specs.declared.either.NotBrought.TheVariants.{InMemory, Outside}
use Rattle.nvme_lent.specs.declared.either.OwnOrLent.{OwnOrLent}
use Rattle.nvme_lent.specs.declared.either.OwnOrLent.TheVariants.{Own, Lent, Brought}

-- The content has the blocks of a room in their places. The earlier room is taken back.
pub record BringsTo (room : Room) (old : BroughtMedium) (earlier : Room) (new : BroughtMedium) : Type 0 where
  pub room_is : new.room ≡ room
  pub earlier_is : earlier ≡ old.room
  pub content : content_of new ≡ with_room (content_of old) room
  pub blocks : new.disk.blocks ≡ old.disk.blocks
  pub failures : new.failures ≡ old.failures

abbrev pub Brings : Room → OwnOrLent → Room → OwnOrLent → Type 0
Brings room (Brought old) earlier (Brought new) = BringsTo room old earlier new
Brings room (Brought old) earlier (Own new) = ⊥
Brings room (Brought old) earlier (Lent new) = ⊥
Brings room (Own old) earlier new = ⊥
Brings room (Lent old) earlier new = ⊥

-- a medium in memory takes no room, and others none with a block at hand that they do not have
abbrev pub IsRefused : Room → OwnOrLent → NotBrought → Type 0
IsRefused room (Own old) why = why ≡ InMemory room
IsRefused room (Lent old) why = why ≡ InMemory room
IsRefused room (Brought old) why = (why ≡ Outside room) × (old.disk.blocks < room.first + room.at_hand)

-- the room is taken back, and the content stays
pub record GivesBack (old : BroughtMedium) (room : Room) (new : BroughtMedium) : Type 0 where
  pub room_is : room ≡ old.room
  pub nothing : HasNothing new
  pub content : content_of new ≡ content_of old
  pub blocks : new.disk.blocks ≡ old.disk.blocks
  pub failures : new.failures ≡ old.failures

abbrev pub GivesRoom : OwnOrLent → Room → OwnOrLent → Type 0
GivesRoom (Brought old) room (Brought new) = GivesBack old room new
GivesRoom (Brought old) room (Own new) = ⊥
GivesRoom (Brought old) room (Lent new) = ⊥
GivesRoom (Own old) room new = IsEmpty room × (new ≡ Own old)
GivesRoom (Lent old) room new = IsEmpty room × (new ≡ Lent old)
