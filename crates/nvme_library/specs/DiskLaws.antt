-- Statements of `laws.rt` on a disk whose blocks a program brings: if it brings each block as the disk has it, and then
-- stores the blocks at hand on the disk, commands are executed as over these blocks in memory.
use Rattle.std.specs.Prelude.{◌≡◌, ◌≢◌, ◌≤◌, ℕ, ◌+◌, ◌*◌, List, [], ◌∷◌, length, map, true, None}
use Rattle.nvme_spec.specs.declared.outcome.Marks.{Marks}
use Rattle.nvme_spec.specs.Blocks.{blocks_from}
use Rattle.nvme_spec.specs.Statuses as status
use Rattle.nvme_brought.specs.Brought.{bytes_at_hand, room_bytes, with_room}
use Rattle.nvme_brought.specs.declared.room.Room.{Room}
use Rattle.nvme_lent.specs.Bytes.{as_lent, extent}
use Rattle.nvme_lent.specs.OwnOrLent.{NothingIsAtHand}
use Rattle.nvme_machine.specs.declared.bare.BareExecuted.TheVariants.{Posted}
use Rattle.nvme_machine.specs.declared.bare.BareOutcome.{BareOutcome}
use Rattle.nvme_machine.specs.declared.bare.BareSeen.{BareSeen}
use Rattle.nvme_machine.specs.declared.bare.BareSeen.TheVariants.{Executed}
use Rattle.nvme_machine.specs.declared.event.Event.{Event as SubsystemEvent}
use Rattle.nvme_machine.specs.declared.event.Event.TheVariants.{Execute}
use Rattle.nvme_machine.specs.declared.need.Need.{Need}
use Rattle.nvme_machine.specs.declared.need.Need.TheVariants as need
use Rattle.nvme_machine.specs.declared.seen.Seen.{Seen}
use Rattle.nvme_machine.specs.Bare.{seen_with}
use Rattle.nvme_machine.specs.EventCalls.{ExecutesNothing}
use Rattle.nvme_machine.specs.Needs.{need_at}
use Rattle.nvme_machine.specs.Subsystems.{Step, Run, controller_at}
use Rattle.nvme_library.specs.Events.{Stepping}
use Rattle.nvme_library.specs.Holding.{Inside}
use Rattle.nvme_library.specs.Over.{ExecutingOver}

-- the blocks at hand are as a disk has them
abbrev pub IsAsOn : List ℕ → Room → Type 0
IsAsOn disk room = bytes_at_hand room ≡ blocks_from disk room.first (512 * room.at_hand)

-- A step over blocks in memory. The content left is that of the disk, once the blocks at hand are stored on it.
pub record IsInMemoryStep (cntlid i : ℕ) (left : Room) (old : Inside) (seen : BareSeen) (new : Inside) : Type 0 where
  pub marks : Marks
  pub step : Step true old.state (Execute cntlid i) (seen_with marks seen) new.state
  pub content : new.state.device.content ≡ with_room old.state.device.content left

-- One execution: if the content of the state is that of the disk, it is a step over blocks in memory.
abbrev pub ExecutionsAreInMemory : Type 0
ExecutionsAreInMemory =
    (cntlid i : ℕ) → (room left : Room) → (old new : Inside) → (seen : BareSeen)
    → ExecutingOver cntlid i room old seen left new → IsAsOn old.state.device.content room
    → IsInMemoryStep cntlid i left old seen new

-- The premise is needed: over other blocks it is no such step, even if there is no such controller, so that nothing is
-- executed.
abbrev pub OtherBlocksAreNotInMemory : Type 0
OtherBlocksAreNotInMemory =
    (cntlid i : ℕ) → (room left : Room) → (old new : Inside) → (seen : BareSeen)
    → controller_at old.state cntlid ≡ None → ExecutingOver cntlid i room old seen left new
    → IsInMemoryStep cntlid i left old seen new → IsAsOn old.state.device.content room

-- Afterwards nothing is at hand, and the bytes of the room are where they were.
pub record EndsWithRoom (room left : Room) (new : Inside) : Type 0 where
  pub nothing : NothingIsAtHand new.medium
  pub extent_is : extent (as_lent left.buffer) ≡ extent (as_lent room.buffer)

abbrev pub RoomsComeBack : Type 0
RoomsComeBack =
    (cntlid i : ℕ) → (room left : Room) → (old new : Inside) → (seen : BareSeen)
    → ExecutingOver cntlid i room old seen left new → EndsWithRoom room left new

-- A room has all that a command needs: the blocks that it reads are at hand, those that it writes have room from the
-- first on, and a flush passes.
abbrev pub HasNeeded : Need → Room → Type 0
HasNeeded need.Nothing room = Unit {0}
HasNeeded (need.Read first blocks) room = (room.first ≤ first) × (first + blocks ≤ room.first + room.at_hand)
HasNeeded (need.Write first blocks) room = (room.first ≡ first) × (512 * blocks ≤ length (room_bytes room))
HasNeeded (need.Zero first blocks) room = (room.first ≡ first) × (512 * blocks ≤ length (room_bytes room))
HasNeeded need.Flush room = room.flushes ≡ true

-- Over such a room no command is answered with a fault of the medium.
abbrev pub WholeRoomsHaveNoFault : Type 0
WholeRoomsHaveNoFault =
    (cntlid i : ℕ) → (room left : Room) → (old new : Inside) → (outcome : BareOutcome)
    → ExecutingOver cntlid i room old (Executed (Posted outcome)) left new → HasNeeded (need_at old.state cntlid i) room
    → (outcome.status ≢ status.write_fault) × (outcome.status ≢ status.unrecovered_read_error)

-- What a program does with a subsystem over its disk: an event that makes no call, or an execution over a room, which
-- comes back like this.
pub data Served : Type 0 where
  Without : SubsystemEvent → Served
  Over : ℕ → ℕ → Room → Room → Served

abbrev pub event_of : Served → SubsystemEvent
event_of (Without event) = event
event_of (Over cntlid i room left) = Execute cntlid i

-- It brings blocks as the disk has them, and then stores those at hand on the disk.
abbrev pub Serves : Served → List ℕ → Inside → BareSeen → List ℕ → Inside → Type 0
Serves (Without event) disk old seen disk' new = ExecutesNothing event × Stepping event old seen new × (disk' ≡ disk)
Serves (Over cntlid i room left) disk old seen disk' new =
    IsAsOn disk room × ExecutingOver cntlid i room old seen left new × (disk' ≡ with_room disk left)

abbrev pub ServesAll : List Served → List ℕ → Inside → List BareSeen → List ℕ → Inside → Type 0
ServesAll [] disk old [] disk' new = (disk' ≡ disk) × (new ≡ old)
ServesAll (one ∷ others) disk old (seen ∷ later) disk' new =
    (mid : Inside) × (between : List ℕ) × Serves one disk old seen between mid
    × ServesAll others between mid later disk' new
ServesAll [] disk old (seen ∷ later) disk' new = ⊥
ServesAll (one ∷ others) disk old [] disk' new = ⊥

-- the same results, with the marks of executions
abbrev pub AreSeen : List BareSeen → List Seen → Type 0
AreSeen [] [] = Unit {0}
AreSeen (bare ∷ bares) (seen ∷ later) = ((marks : Marks) × (seen ≡ seen_with marks bare)) × AreSeen bares later
AreSeen [] (seen ∷ later) = ⊥
AreSeen (bare ∷ bares) [] = ⊥

-- A run over blocks in memory, which has the content of the disk at its end.
pub record IsInMemoryRun (events : List SubsystemEvent) (old : Inside) (bares : List BareSeen) (disk : List ℕ)
    (new : Inside) : Type 0 where
  pub seen : List Seen
  pub are : AreSeen bares seen
  pub run : Run true old.state events seen new.state
  pub content : new.state.device.content ≡ disk

-- Any list of them: if the content of the state is that of the disk at first, it is a run over blocks in memory, and
-- the disk has what that run leaves.
abbrev pub RunsAreInMemory : Type 0
RunsAreInMemory =
    (served : List Served) → (disk disk' : List ℕ) → (old new : Inside) → (seen : List BareSeen)
    → old.state.device.content ≡ disk → ServesAll served disk old seen disk' new
    → IsInMemoryRun (map event_of served) old seen disk' new
