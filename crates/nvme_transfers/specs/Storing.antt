-- The place of the bytes of a part.
use Rattle.std.specs.Prelude.{
  ℕ,
  ◌+◌,
  Bool,
  ◌&&◌,
  ◌==◌,
  nat_le,
  if◌then◌else◌,
  List,
  ◌++◌,
  length,
  take,
  drop,
  Result,
  Ok,
  Err,
}
use Rattle.nvme_pdu.specs.declared.fatal.Fatal.{Fatal}
use Rattle.nvme_transfers.specs.declared.part.Part.{Part}
use Rattle.nvme_transfers.specs.declared.part.Taken.{Taken}
use Rattle.nvme_transfers.specs.States.{State}
use Rattle.nvme_transfers.specs.Transfers.{out_of_range, taken, after_part}

-- the bytes are as many as DATAL says, and end within the room
abbrev pub has_place : Part → List ℕ → List ℕ → Bool
has_place p bytes room = (length bytes == p.length) && nat_le (p.offset + p.length) (length room)

abbrev pub stored : State → Part → List ℕ → List ℕ → Result Taken Fatal
stored s p bytes room = if has_place p bytes room then taken s p else Err out_of_range

abbrev pub after_store : State → Part → List ℕ → List ℕ → State
after_store s p bytes room = if has_place p bytes room then after_part s p else s

-- the room with bytes from a place on
abbrev pub with_bytes : ℕ → List ℕ → List ℕ → List ℕ
with_bytes begin bytes room = take begin room ++ (bytes ++ drop (length bytes) (drop begin room))

abbrev pub room_with : Result Taken Fatal → List ℕ → List ℕ → List ℕ
room_with (Ok t) bytes room = with_bytes t.begin bytes room
room_with (Err e) bytes room = room
