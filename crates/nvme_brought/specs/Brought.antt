-- A medium of brought blocks, as contracts see it: its content, and the answer and the effect of each call.
use Rattle.std.specs.Prelude.{
  ◌≡◌,
  ℕ,
  ◌+◌,
  ◌*◌,
  ◌/◌,
  max,
  min,
  Bool,
  true,
  false,
  List,
  [],
  length,
  take,
  Option,
  Some,
  None,
  Ok,
  IsErr,
  Result,
}
use Rattle.std.specs.Vec.{vec_len, vec_ptr}
use Rattle.nvme_spec.specs.Blocks.{HasFailed, block_at}
use Rattle.nvme_spec.specs.Bytes.{with_bytes}
use Rattle.nvme_spec.specs.MediumCalls.{MediumAnswer, MediumCall, Reads, Writes, Flushes}
use Rattle.nvme_spec.specs.declared.medium.MediumFault.{MediumFault as Fault}
use Rattle.nvme_brought.specs.Places.{place_in}
use Rattle.nvme_brought.specs.declared.medium.BroughtMedium.{BroughtMedium}
use Rattle.nvme_brought.specs.declared.room.Room.{Room}

-- the bytes of a room
abbrev pub room_bytes : Room → List ℕ
room_bytes r = r.buffer.items

-- the bytes of its blocks at hand
abbrev pub bytes_at_hand : Room → List ℕ
bytes_at_hand r = take (512 * r.at_hand) (room_bytes r)

-- a room without blocks, through which no flush passes
pub record IsEmpty (r : Room) : Type 0 where
  pub bytes : room_bytes r ≡ []
  pub first : r.first ≡ 0
  pub at_hand : r.at_hand ≡ 0
  pub flushes : r.flushes ≡ false

-- the place of a block at hand
abbrev pub place_of : Room → ℕ → Option ℕ
place_of r i = place_in r.first r.at_hand i

-- the place of a block that can be written: one at hand, or the next one, if the room is long enough
abbrev pub place_for : Room → ℕ → Option ℕ
place_for r i = place_in r.first (min (r.at_hand + 1) (length (room_bytes r) / 512)) i

-- a content over which the blocks at hand are put
abbrev pub with_room : List ℕ → Room → List ℕ
with_room content r = with_bytes content (512 * r.first) (bytes_at_hand r)

-- the content of the medium: that of the disk, over which the blocks at hand are put
abbrev pub content_of : BroughtMedium → List ℕ
content_of m = with_room m.disk.content.bytes m.room

-- a call failed, which changes only the number of failures
pub record Fails (old new : BroughtMedium) : Type 0 where
  pub disk : new.disk ≡ old.disk
  pub room : new.room ≡ old.room
  pub failures : HasFailed old.failures new.failures

-- A block was written to a place of the room, and is at hand. The bytes of the room stay at their address.
pub record PutsAt (nth : ℕ) (block : List ℕ) (old new : BroughtMedium) : Type 0 where
  pub disk : new.disk ≡ old.disk
  pub bytes : room_bytes new.room ≡ with_bytes (room_bytes old.room) (512 * nth) block
  pub at_hand : new.room.at_hand ≡ max old.room.at_hand (nth + 1)
  pub first : new.room.first ≡ old.room.first
  pub flushes : new.room.flushes ≡ old.room.flushes
  pub address : vec_ptr new.room.buffer ≡ vec_ptr old.room.buffer
  pub len : vec_len new.room.buffer ≡ vec_len old.room.buffer
  pub failures : new.failures ≡ old.failures

-- a block at hand is read, and any other read fails
abbrev pub ReadsFrom : Option ℕ → BroughtMedium → Result (List ℕ) Fault → BroughtMedium → Type 0
ReadsFrom None old answer new = IsErr answer × Fails old new
ReadsFrom (Some nth) old answer new = (answer ≡ Ok (block_at (room_bytes old.room) nth)) × (new ≡ old)

-- a block is written if it has a place, and any other write fails
abbrev pub WritesTo : Option ℕ → List ℕ → BroughtMedium → MediumAnswer → BroughtMedium → Type 0
WritesTo None block old answer new = IsErr answer × Fails old new
WritesTo (Some nth) block old answer new = (answer ≡ Ok tt) × PutsAt nth block old new

-- a flush passes if the program said so
abbrev pub FlushesIf : Bool → BroughtMedium → MediumAnswer → BroughtMedium → Type 0
FlushesIf false old answer new = IsErr answer × Fails old new
FlushesIf true old answer new = (answer ≡ Ok tt) × (new ≡ old)

-- the answer and the effect of each call
abbrev pub brought_step : BroughtMedium → MediumCall → BroughtMedium → Type 0
brought_step old (Reads i answer) new = ReadsFrom (place_of old.room i) old answer new
brought_step old (Writes i block answer) new = WritesTo (place_for old.room i) block old answer new
brought_step old (Flushes answer) new = FlushesIf old.room.flushes old answer new

-- a medium without a block at hand
abbrev pub HasNothing : BroughtMedium → Type 0
HasNothing m = IsEmpty m.room
