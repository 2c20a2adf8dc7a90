-- The place of a command's data (NVM Express Base Specification 2.0, Scatter Gather List, Opcode; NVMe/TCP Transport
-- Specification 1.0, Data Transfer).
use Rattle.std.specs.Prelude.{
  ℕ,
  ◌+◌,
  ◌/◌,
  ◌%◌,
  Bool,
  ◌||◌,
  ◌==◌,
  nat_lt,
  if◌then◌else◌,
  List,
  get_or,
  Result,
  Ok,
  Err,
}
use Rattle.nvme_wire.specs.Entry.{dword_at, qword_at}
use Rattle.nvme_wire.specs.declared.status.Status.{Status}
use Rattle.nvme_capsules.specs.declared.data_place.DataPlace.{DataPlace}
use Rattle.nvme_capsules.specs.declared.data_place.DataPlace.TheVariants as place
use Rattle.nvme_capsules.specs.Statuses.{
  invalid_field_in_command,
  data_sgl_length_invalid,
  sgl_descriptor_type_invalid,
  sgl_offset_invalid,
}

-- of an entry: OPC, PSDT, FCTYPE, and of SGL 1 the address, the length and the SGL Identifier
abbrev pub opcode_of : List ℕ → ℕ
opcode_of e = get_or e 0 0

abbrev pub psdt_of : List ℕ → ℕ
psdt_of e = get_or e 1 0 / 64

abbrev pub fctype_of : List ℕ → ℕ
fctype_of e = get_or e 4 0

abbrev pub sgl_address_of : List ℕ → ℕ
sgl_address_of e = qword_at e 24

abbrev pub sgl_length_of : List ℕ → ℕ
sgl_length_of e = dword_at e 32

abbrev pub sgl_identifier_of : List ℕ → ℕ
sgl_identifier_of e = get_or e 39 0

abbrev pub is_fabrics : List ℕ → Bool
is_fabrics e = opcode_of e == 0x7f

-- a command of Fabrics has FCTYPE for an opcode
abbrev pub operation : List ℕ → ℕ
operation e = if is_fabrics e then fctype_of e else opcode_of e

-- Data Transfer: 1 to the controller, 2 from the controller
abbrev pub direction_of : List ℕ → ℕ
direction_of e = operation e % 4

abbrev pub has_no_data : List ℕ → Bool
has_no_data e = (direction_of e == 0) || ((direction_of e == 3) || (sgl_length_of e == 0))

-- 128 KiB
abbrev pub most_data : ℕ
most_data = 131072

-- a data block at an offset in a capsule with this number of bytes
abbrev pub at_offset : ℕ → ℕ → ℕ → Result DataPlace Status
at_offset offset bytes in_capsule =
    if nat_lt in_capsule offset then Err sgl_offset_invalid
    else (if nat_lt in_capsule (offset + bytes) then Err data_sgl_length_invalid
    else Ok (place.InCapsule offset bytes))

-- the SGL Identifiers of such a block, and of one that the transport moves
abbrev pub to_controller : List ℕ → ℕ → Result DataPlace Status
to_controller e in_capsule =
    if sgl_identifier_of e == 0x01 then at_offset (sgl_address_of e) (sgl_length_of e) in_capsule
    else (if sgl_identifier_of e == 0x5a then Ok (place.OnRequest (sgl_length_of e))
    else Err sgl_descriptor_type_invalid)

abbrev pub from_controller : List ℕ → Result DataPlace Status
from_controller e =
    if sgl_identifier_of e == 0x5a then Ok (place.FromController (sgl_length_of e))
    else Err sgl_descriptor_type_invalid

-- The place, or the status of the first rule that is broken: PSDT says that there is an SGL, and the
-- data are at most 128 KiB.
unfoldable pub data_place : List ℕ → ℕ → Result DataPlace Status
data_place e in_capsule =
    if psdt_of e == 1 then
    (if has_no_data e then Ok (place.FromController 0)
    else (if nat_lt most_data (sgl_length_of e) then Err data_sgl_length_invalid
    else (if direction_of e == 1 then to_controller e in_capsule else from_controller e)))
    else Err invalid_field_in_command
