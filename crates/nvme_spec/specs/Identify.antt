-- The data structures of Identify (Base Specification: Identify command, Identify Controller data structure, Active
-- Namespace ID list; NVM Command Set Specification: Identify Namespace data structure). Each has 4,096 bytes, which are
-- 0 outside of its fields.
use Rattle.std.specs.Prelude.{
  ℕ,
  ◌-◌,
  nat_lt,
  Bool,
  ◌&&◌,
  if◌then◌else◌,
  List,
  [],
  ◌∷◌,
  ◌++◌,
  codes,
  length,
  filter,
  flat_map,
  replicate,
  Option,
  None,
  Some,
}
use Rattle.std.specs.List.{range_with_len}
use Rattle.std.specs.Int.{w16, w32, w64, to_le_bytes}
use Rattle.nvme_spec.specs.Bytes.{with_bytes}
use Rattle.nvme_spec.specs.Commands.{optional_commands}
use Rattle.nvme_spec.specs.World.{World, Namespace, forbids_writing, namespace_of, is_attached}

-- Bytes at an offset.
pub record Field : Type 0 where
  pub offset : ℕ
  pub bytes : List ℕ

-- fields of one, two, four and eight bytes
abbrev pub byte_field : ℕ → ℕ → Field
byte_field at value = record { offset = at; bytes = value ∷ [] }

abbrev pub word_field : ℕ → ℕ → Field
word_field at value = record { offset = at; bytes = to_le_bytes w16 value }

abbrev pub dword_field : ℕ → ℕ → Field
dword_field at value = record { offset = at; bytes = to_le_bytes w32 value }

abbrev pub qword_field : ℕ → ℕ → Field
qword_field at value = record { offset = at; bytes = to_le_bytes w64 value }

-- ASCII text in a field of this size, filled with spaces
abbrev pub text_field : ℕ → ℕ → List ℕ → Field
text_field at size text = record { offset = at; bytes = text ++ replicate (size - length text) 0x20 }

-- the bytes, with these fields one after the other
abbrev pub with_fields : List ℕ → List Field → List ℕ
with_fields data_bytes [] = data_bytes
with_fields data_bytes (field ∷ rest) = with_fields (with_bytes data_bytes field.offset field.bytes) rest

abbrev pub no_fields : List ℕ
no_fields = replicate 4096 0

abbrev pub bit_of : Bool → ℕ
bit_of flag = if flag then 1 else 0

-- Identify Namespace
abbrev pub namespace_fields : Namespace → List Field
namespace_fields n =
    -- NSZE, NCAP, NUSE: its size, its capacity and its use, in blocks
    qword_field 0 n.blocks
    ∷ qword_field 8 n.blocks
    ∷ qword_field 16 n.blocks
    -- NMIC: whether it may be attached to several controllers
    ∷ byte_field 30 (bit_of n.shared)
    -- RESCAP: persist through power loss; the six reservation types; IEKEY as in revision 1.3 and later
    ∷ byte_field 31 0xff
    -- NSATTR: whether it is write protected
    ∷ byte_field 99 (bit_of (forbids_writing n.protection))
    -- LBAF0: LBADS, blocks of 2 to the power of 9 bytes
    ∷ byte_field 130 9
    ∷ []

-- Identify Controller
abbrev pub controller_fields : ℕ → List Field
controller_fields cntlid =
    -- SN, MN, FR: serial number, model number, firmware revision
    text_field 4 20 (codes "NVMESIM")
    ∷ text_field 24 40 (codes "Multi-Host Subsystem")
    ∷ text_field 64 8 (codes "1.0")
    -- CMIC: the subsystem has several controllers
    ∷ byte_field 76 0x02
    -- MDTS: transfers of at most 2 to the power of 5 pages
    ∷ byte_field 77 5
    ∷ word_field 78 cntlid
    -- VER 2.0
    ∷ dword_field 80 0x00020000
    -- CTRATT: host identifiers of 128 bits
    ∷ dword_field 96 0x00000001
    -- CNTRLTYPE: an I/O controller
    ∷ byte_field 111 1
    -- OACS: Namespace Attachment
    ∷ word_field 256 0x0008
    -- SQES, CQES: entries of 64 and of 16 bytes
    ∷ byte_field 512 0x66
    ∷ byte_field 513 0x44
    -- NN: the highest namespace identifier
    ∷ dword_field 516 8
    -- ONCS
    ∷ word_field 520 optional_commands
    -- VWC: no volatile write cache; Flush does not take the broadcast identifier
    ∷ byte_field 525 0x04
    -- NWPC: namespaces can be write protected, also until a power cycle
    ∷ byte_field 531 3
    ∷ []

unfoldable pub identify_namespace : Namespace → List ℕ
identify_namespace n = with_fields no_fields (namespace_fields n)

unfoldable pub identify_controller : ℕ → List ℕ
identify_controller cntlid = with_fields no_fields (controller_fields cntlid)

-- the namespaces attached to a controller whose identifiers are above this one, in rising order
abbrev pub attached_above : World → ℕ → ℕ → List ℕ
attached_above w cntlid nsid = filter (λ n. nat_lt nsid n && is_attached w cntlid n) (range_with_len 1 8)

-- the list of these identifiers, four bytes each
unfoldable pub namespace_list : List ℕ → List ℕ
namespace_list nsids = with_bytes no_fields 0 (flat_map (to_le_bytes w32) nsids)

-- zeros if the namespace is not attached to the controller
abbrev pub identify_attached : World → ℕ → ℕ → List ℕ
identify_attached w cntlid nsid = shown (namespace_of w nsid) (is_attached w cntlid nsid)
  where
    shown : Option Namespace → Bool → List ℕ
    shown None attached = no_fields
    shown (Some n) attached = if attached then identify_namespace n else no_fields
