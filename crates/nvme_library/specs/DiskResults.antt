-- Statements of worked examples: what a program does with a disk, and the invariant of what is open.
use Rattle.std.specs.Prelude.{◌≡◌, ◌≤◌, ℕ, ◌+◌, List, [], ◌∷◌, length, Some}
use Rattle.nvme_brought.specs.Brought.{room_bytes}
use Rattle.nvme_brought.specs.declared.room.Room.{Room}
use Rattle.nvme_machine.specs.declared.bare.BareSeen.{BareSeen}
use Rattle.nvme_machine.specs.declared.event.Event.TheVariants.{PowerCycle}
use Rattle.nvme_machine.specs.declared.need.Need.TheVariants as need
use Rattle.nvme_machine.specs.declared.seen.Seen.{Seen}
use Rattle.nvme_machine.specs.Subsystems.{after_power_cycle}
use Rattle.nvme_library.specs.DiskLaws.{AreSeen, HasNeeded, IsAsOn, Serves, ServesAll, Without, Over}
use Rattle.nvme_library.specs.Holding.{Inside}
use Rattle.nvme_library.specs.Over.{ExecutingOver}
use Rattle.nvme_library.specs.Whole.{AreWhole, HoldsWhole}

-- Any room serves a command that needs nothing. For a Read of blocks 5 and 6 both are at hand; for a Write of them the
-- room begins with block 5, and is 1024 bytes long.
pub record RoomsServeNeeds : Type 0 where
  pub nothing : (room : Room) → HasNeeded need.Nothing room
  pub read_blocks : (room : Room) → HasNeeded (need.Read 5 2) room → (room.first ≤ 5) × (7 ≤ room.first + room.at_hand)
  pub written_blocks : (room : Room) → HasNeeded (need.Write 5 2) room
      → (room.first ≡ 5) × (1024 ≤ length (room_bytes room))

-- A power cycle leaves the disk and the medium as they are, alone or in a list, and over a room the blocks are as the
-- disk has them. An empty list changes nothing. A list of results is as long as that of what is seen.
pub record DisksAreServed : Type 0 where
  pub cycled : (disk disk' : List ℕ) (old new : Inside) (seen : BareSeen)
      → Serves (Without PowerCycle) disk old seen disk' new
      → (disk' ≡ disk) × (new.state ≡ after_power_cycle old.state) × (new.medium ≡ old.medium)
  pub over_a_room : (k i : ℕ) (room left : Room) (disk disk' : List ℕ) (old new : Inside) (seen : BareSeen)
      → Serves (Over k i room left) disk old seen disk' new
      → IsAsOn disk room × ExecutingOver k i room old seen left new
  pub nothing : (disk disk' : List ℕ) (old new : Inside) → ServesAll [] disk old [] disk' new
      → (disk' ≡ disk) × (new ≡ old)
  pub one_cycle : (disk disk' : List ℕ) (old new : Inside) (seen : BareSeen)
      → ServesAll (Without PowerCycle ∷ []) disk old (seen ∷ []) disk' new
      → (disk' ≡ disk) × (new.medium ≡ old.medium)
  pub too_few : (seen : Seen) (later : List Seen) → AreSeen [] (seen ∷ later) → ⊥
  pub too_many : (bare : BareSeen) (bares : List BareSeen) → AreSeen (bare ∷ bares) [] → ⊥

-- All controllers of what is open are whole.
abbrev pub OpenOnesAreWhole : Type 0
OpenOnesAreWhole = (s : Inside) → HoldsWhole (Some s) → AreWhole s.state
