-- The effect of each export on the commands of a handle, whose data a host sends, and what C sees of it. If none are
-- open, nothing happens.
use Rattle.std.specs.Prelude.{◌≡◌, ℕ, Bool, true, false, List, Option, Some, None, Result, Ok, Err, replicate}
use Rattle.nvme_pdu.specs.declared.fatal.Fatal.{Fatal}
use Rattle.nvme_transfers.specs.declared.command.Command.{Command}
use Rattle.nvme_transfers.specs.declared.command.Refused.{Refused}
use Rattle.nvme_transfers.specs.declared.command.Refused.TheVariants as refused
use Rattle.nvme_transfers.specs.declared.command.Request.{Request}
use Rattle.nvme_transfers.specs.declared.part.Completed.{Completed}
use Rattle.nvme_transfers.specs.declared.part.Part.{Part}
use Rattle.nvme_transfers.specs.declared.part.Taken.{Taken}
use Rattle.nvme_transfers.specs.States.{State}
use Rattle.nvme_transfers.specs.Storing.{after_store, room_with, stored}
use Rattle.nvme_transfers.specs.Transfers.{
  admitted,
  after_begin,
  after_part,
  after_request,
  count,
  ended,
  has,
  next_request,
  none,
  taken,
}
use Rattle.nvme_tcp_library.specs.declared.parts.PartTaken.{PartTaken}
use Rattle.nvme_tcp_library.specs.declared.transfers.NextRequest.{NextRequest}

-- ---- opening and ending

-- there are none, or memory was refused
abbrev pub OpensInto : ℕ → Option State → Type 0
OpensInto code None = code ≡ 27
OpensInto code (Some s) = (code ≡ 0) × (s ≡ none)

abbrev pub Opens : Option State → ℕ → Option State → Type 0
Opens (Some s) code new = (code ≡ 22) × (new ≡ Some s)
Opens None code new = OpensInto code new

abbrev pub Ends : Option State → ℕ → Option State → Type 0
Ends None code new = (code ≡ 16) × (new ≡ None)
Ends (Some s) code new = (code ≡ 0) × (new ≡ Some ended)

-- ---- commands

abbrev pub count_by : Option State → ℕ
count_by None = 0
count_by (Some s) = count s

abbrev pub has_by : ℕ → Option State → Bool
has_by cid None = false
has_by cid (Some s) = has s cid

abbrev pub begun_code : Result (Unit {0}) Refused → ℕ
begun_code (Ok u) = 0
begun_code (Err refused.Ended) = 42
begun_code (Err refused.NoData) = 43
begun_code (Err refused.InFlight) = 44
begun_code (Err refused.NoRoom) = 45

abbrev pub command_of : List ℕ → ℕ → Command
command_of e bytes = record { entry = e; length = bytes }

abbrev pub Begins : List ℕ → ℕ → Option State → ℕ → Option State → Type 0
Begins e bytes None code new = (code ≡ 16) × (new ≡ None)
Begins e bytes (Some s) code new =
    (code ≡ begun_code (admitted s (command_of e bytes))) × (new ≡ Some (after_begin s (command_of e bytes)))

-- ---- R2T

abbrev pub no_request : ℕ → NextRequest
no_request what = record { what = what; length = 0; cid = 0; tag = 0 }

abbrev pub request_seen : Option Request → NextRequest
request_seen None = no_request 46
request_seen (Some r) = record { what = 0; length = r.length; cid = r.cid; tag = r.tag }

abbrev pub Asks : Option State → NextRequest → Option State → Type 0
Asks None seen new = (seen ≡ no_request 16) × (new ≡ None)
Asks (Some s) seen new = (seen ≡ request_seen (next_request s)) × (new ≡ Some (after_request s))

-- ---- parts

abbrev pub no_part : ℕ → Fatal → PartTaken
no_part what fatal = record {
  what = what;
  field = fatal.field;
  begin = 0;
  length = 0;
  status = fatal.status;
  is_complete = false;
  is_sound = false;
  entry = replicate 64 0;
}

abbrev pub not_open : PartTaken
not_open = no_part 16 (record { status = 0; field = 0 })

-- the part of a command that has not got all its data yet
abbrev pub part_at : ℕ → PartTaken
part_at begin = record (no_part 0 (record { status = 0; field = 0 })) { begin = begin }

-- the last part of a command
abbrev pub last_at : ℕ → Completed → PartTaken
last_at begin done = record (part_at begin) {
  length = done.command.length;
  is_complete = true;
  is_sound = done.is_sound;
  entry = done.command.entry;
}

abbrev pub completes_at : ℕ → Option Completed → PartTaken
completes_at begin None = part_at begin
completes_at begin (Some done) = last_at begin done

abbrev pub part_seen : Result Taken Fatal → PartTaken
part_seen (Err fatal) = no_part 40 fatal
part_seen (Ok t) = completes_at t.begin t.completed

abbrev pub Takes : Part → Option State → PartTaken → Option State → Type 0
Takes p None seen new = (seen ≡ not_open) × (new ≡ None)
Takes p (Some s) seen new = (seen ≡ part_seen (taken s p)) × (new ≡ Some (after_part s p))

-- the bytes of the part go to their place in the room, each other byte of which stays
abbrev pub Stores : Part → List ℕ → List ℕ → Option State → PartTaken → List ℕ → Option State → Type 0
Stores p bytes room None seen new_room new = (seen ≡ not_open) × (new_room ≡ room) × (new ≡ None)
Stores p bytes room (Some s) seen new_room new =
    (seen ≡ part_seen (stored s p bytes room)) × (new_room ≡ room_with (stored s p bytes room) bytes room)
    × (new ≡ Some (after_store s p bytes room))
