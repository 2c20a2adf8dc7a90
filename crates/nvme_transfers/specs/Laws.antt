-- Laws over any run of calls: a command completes with exactly its own data (NVMe/TCP Transport Specification 1.0,
-- Ready to Transfer, Host To Controller Data Transfer).
use Rattle.std.specs.Prelude.{
  ◌≡◌,
  ◌⊎◌,
  ℕ,
  ◌+◌,
  ◌<◌,
  ◌≤◌,
  Bool,
  true,
  ◌&&◌,
  ◌==◌,
  if◌then◌else◌,
  List,
  [],
  ◌∷◌,
  ◌++◌,
  length,
  map,
  take,
  Some,
  Ok,
  Err,
}
use Rattle.nvme_pdu.specs.declared.fatal.Fatal.{Fatal}
use Rattle.nvme_transfers.specs.declared.command.Command.{Command}
use Rattle.nvme_transfers.specs.declared.command.Refused.{Refused}
use Rattle.nvme_transfers.specs.declared.part.Part.{Part}
use Rattle.nvme_transfers.specs.declared.part.Completed.{Completed}
use Rattle.nvme_transfers.specs.declared.transfer.Transfer.{Transfer}
use Rattle.nvme_transfers.specs.Parts.{cid_of}
use Rattle.nvme_transfers.specs.States.{State}
use Rattle.nvme_transfers.specs.Transfers.{
  ended,
  transfer_at,
  admitted,
  after_begin,
  out_of_range,
  taken,
  after_part,
}
use Rattle.nvme_transfers.specs.Storing.{with_bytes}
use Rattle.nvme_transfers.specs.Runs.{
  Call,
  Begins,
  Requests,
  Takes,
  Ends,
  Whole,
  after,
  state_after,
  begun,
  requested,
  in_flight,
  dropped,
  unasked,
  parts,
  held,
  lost,
  complete,
}

-- ---- own data

-- a part of this command's data that begins at this offset
pub record IsPart (c : Command) (tag from : ℕ) (p : Part) : Type 0 where
  pub cid : p.cid ≡ cid_of c
  pub tag_is : p.tag ≡ tag
  pub offset : p.offset ≡ from
  pub some : 0 < p.length
  pub within : from + p.length ≤ c.length
  pub last : p.is_last ≡ (from + p.length == c.length)

-- parts of this command's data without gap or overlap, from one offset to another
abbrev pub AreParts : Command → ℕ → ℕ → List Part → ℕ → Type 0
AreParts c tag from [] to = from ≡ to
AreParts c tag from (p ∷ ps) to = IsPart c tag from p × AreParts c tag (from + p.length) ps to

abbrev pub all_sound : List Part → Bool
all_sound [] = true
all_sound (p ∷ ps) = p.is_sound && all_sound ps

-- It has all its data, from its own parts, and is sound exactly if these are.
pub record IsWhole (w : Whole) : Type 0 where
  pub parts : AreParts w.command w.tag 0 w.parts w.command.length
  pub is_sound : w.is_sound ≡ all_sound w.parts

abbrev pub AreWhole : List Whole → Type 0
AreWhole [] = Unit {0}
AreWhole (w ∷ ws) = IsWhole w × AreWhole ws

abbrev pub OwnData : Type 0
OwnData = (run : List Call) → AreWhole (complete run)

-- a part with its bytes
pub record Piece : Type 0 where
  pub part : Part
  pub bytes : List ℕ

abbrev pub AreSized : List Piece → Type 0
AreSized [] = Unit {0}
AreSized (x ∷ xs) = (length x.bytes ≡ x.part.length) × AreSized xs

-- a room after these parts were stored, one after the other
abbrev pub room_after : List Piece → List ℕ → List ℕ
room_after [] room = room
room_after (x ∷ xs) room = room_after xs (with_bytes x.part.offset x.bytes room)

abbrev pub bytes_of : List Piece → List ℕ
bytes_of [] = []
bytes_of (x ∷ xs) = x.bytes ++ bytes_of xs

-- A room in which all parts of a command were stored begins with their bytes, in order: all its data.
abbrev pub RoomHasData : Type 0
RoomHasData = (c : Command) (tag : ℕ) (pieces : List Piece) (room : List ℕ)
    → AreParts c tag 0 (map (λ x. x.part) pieces) c.length → AreSized pieces → c.length ≤ length room
    → take c.length (room_after pieces room) ≡ bytes_of pieces

-- ---- each once

-- The sum of a weight over a list. Two lists whose sums are the same for any weight have the same elements, each as
-- often.
abbrev pub tally : {A : Type 0} → (A → ℕ) → List A → ℕ
tally weight [] = 0
tally weight (x ∷ xs) = weight x + tally weight xs

-- Each part that is taken is one of those of one complete command, or of one in flight, or was lost with one. None
-- counts twice, and a complete command has no other.
abbrev pub PartsOnce : Type 0
PartsOnce = (run : List Call) (weight : Part → ℕ)
    → tally weight (parts run)
    ≡ tally (λ w. tally weight w.parts) (complete run) + (tally weight (held run) + tally weight (lost run))

-- Each command that has begun is complete, in flight, or dropped. None is complete twice, and nothing else is complete.
abbrev pub CommandsOnce : Type 0
CommandsOnce = (run : List Call) (weight : Command → ℕ)
    → tally weight (begun run)
    ≡ tally (λ w. weight w.command) (complete run)
    + (tally weight (in_flight (state_after run)) + tally weight (dropped run))

-- R2Ts are sent for commands in their order, for each once.
abbrev pub InOrder : Type 0
InOrder = (run : List Call) → begun run ≡ requested run ++ (unasked run ++ (state_after run).waiting)

abbrev pub is_of : ℕ → Command → ℕ
is_of cid c = if cid_of c == cid then 1 else 0

-- No two commands in flight have the same identifier, so none has two tags.
abbrev pub OneOfEach : Type 0
OneOfEach = (run : List Call) (cid : ℕ) → tally (is_of cid) (in_flight (state_after run)) ≤ 1

-- ---- refusals and the end

-- a refused command changes nothing
abbrev pub RefusedKeeps : Type 0
RefusedKeeps = (s : State) (c : Command) (e : Refused) → admitted s c ≡ Err e → after_begin s c ≡ s

-- a part that is not taken is Data Transfer Out of Range, and changes nothing
abbrev pub BreachIsRange : Type 0
BreachIsRange = (s : State) (p : Part) (e : Fatal) → taken s p ≡ Err e → e ≡ out_of_range

abbrev pub BreachKeeps : Type 0
BreachKeeps = (s : State) (p : Part) (e : Fatal) → taken s p ≡ Err e → after_part s p ≡ s

-- nothing begins, is asked for, taken or complete after the end
pub record IsOver (later run : List Call) : Type 0 where
  pub state : state_after (later ++ (Ends ∷ run)) ≡ ended
  pub begun_then : begun (later ++ (Ends ∷ run)) ≡ begun run
  pub requested_then : requested (later ++ (Ends ∷ run)) ≡ requested run
  pub parts_then : parts (later ++ (Ends ∷ run)) ≡ parts run
  pub complete_then : complete (later ++ (Ends ∷ run)) ≡ complete run

abbrev pub EndIsFinal : Type 0
EndIsFinal = (later run : List Call) → IsOver later run

-- ---- what a host does rightly completes

-- the parts with a tag in calls, the oldest first
abbrev pub part_with : ℕ → Call → List Part
part_with tag (Begins c) = []
part_with tag Requests = []
part_with tag (Takes p) = if p.tag == tag then p ∷ [] else []
part_with tag Ends = []

abbrev pub parts_with : ℕ → List Call → List Part
parts_with tag [] = []
parts_with tag (call ∷ calls) = part_with tag call ++ parts_with tag calls

abbrev pub IsNoEnd : Call → Type 0
IsNoEnd (Begins c) = Unit {0}
IsNoEnd Requests = Unit {0}
IsNoEnd (Takes p) = Unit {0}
IsNoEnd Ends = ⊥

abbrev pub NoEnd : List Call → Type 0
NoEnd [] = Unit {0}
NoEnd (call ∷ calls) = IsNoEnd call × NoEnd calls

-- this call is a part with the tag, and completes the command
abbrev pub CompletesBy : State → ℕ → Completed → Call → Type 0
CompletesBy s tag done (Begins c) = ⊥
CompletesBy s tag done Requests = ⊥
CompletesBy s tag done (Takes p) =
    (p.tag ≡ tag) × (taken s p ≡ Ok (record { begin = p.offset; completed = Some done }))
CompletesBy s tag done Ends = ⊥

-- one of these calls does, the oldest first
abbrev pub Completes : State → ℕ → Completed → List Call → Type 0
Completes s tag done [] = ⊥
Completes s tag done (call ∷ calls) = CompletesBy s tag done call ⊎ Completes (after s call) tag done calls

-- If the parts with a command's tag are its data from those that it has to its length, it completes, whatever else
-- happens between them, unless the connection ends.
abbrev pub RightPartsComplete : Type 0
RightPartsComplete = (s : State) (tag : ℕ) (x : Transfer) (calls : List Call)
    → transfer_at s tag ≡ Some x → x.count < x.command.length → NoEnd calls
    → AreParts x.command tag x.count (parts_with tag calls) x.command.length
    → Completes s tag
    (record { command = x.command; is_sound = x.is_sound && all_sound (parts_with tag calls) }) calls
