-- The command of each request of a host, and its data (NVM Command Set Specification: Flush, Write, Read, Compare,
-- Write Zeroes; Base Specification: Reservation Register, Acquire, Release and Report, Identify, Namespace Write
-- Protection Config, Namespace Attachment, Controller List).
use Rattle.std.specs.Prelude.{
  ℕ,
  ◌+◌,
  ◌-◌,
  ◌*◌,
  ◌/◌,
  ◌%◌,
  ◌^◌,
  ◌==◌,
  nat_lt,
  Bool,
  false,
  not,
  ◌&&◌,
  ◌||◌,
  if◌then◌else◌,
  List,
  [],
  ◌∷◌,
  ◌++◌,
  length,
  replicate,
}
use Rattle.std.specs.List.{flat_map}
use Rattle.std.specs.Int.{w16, w64, to_le_bytes}
use Rattle.nvme_spec.specs.declared.command.Command as standard
use Rattle.nvme_spec.specs.declared.command.AdminCommand as standard_admin
use Rattle.nvme_spec.specs.declared.command.Command.TheVariants as io
use Rattle.nvme_spec.specs.declared.command.AdminCommand.TheVariants as admin
use Rattle.nvme_spec.specs.Limits.{block_size, most_blocks, most_bytes, memory_page, longest_controller_list}
use Rattle.nvme_spec.specs.Commands as commands
use Rattle.nvme_spec.specs.AdminCommands as admin_commands
use Rattle.nvme_driver.specs.declared.lane.Lane.{Lane}
use Rattle.nvme_driver.specs.declared.lane.Lane.TheVariants.{Admin, Io}
use Rattle.nvme_driver.specs.declared.request.Request.{Request}
use Rattle.nvme_driver.specs.declared.request.Request.TheVariants.{
  Read,
  Write,
  Compare,
  WriteZeroes,
  Flush,
  Register,
  Acquire,
  Release,
  Report,
  Identify,
  Protect,
  Protection,
  Attach,
  Detach,
}

-- The fields of the command that a request gives: its lane (queue pair), its opcode, its namespace and the double words
-- 10, 11 and 12. All other fields are its slot's, or 0.
pub record Command : Type 0 where
  pub lane : Lane
  pub opcode : ℕ
  pub nsid : ℕ
  pub cdw10 : ℕ
  pub cdw11 : ℕ
  pub cdw12 : ℕ

abbrev pub words_of : Command → List ℕ
words_of c = c.cdw10 ∷ c.cdw11 ∷ c.cdw12 ∷ []

-- The command and its data: the number of bytes that it transfers, the bytes for the controller, and the number of
-- bytes from there if it succeeds.
pub record Asked : Type 0 where
  pub command : Command
  pub moved : ℕ
  pub sent : List ℕ
  pub received : ℕ

-- an I/O command and an admin command, by namespace and double words
abbrev pub on_io : standard.Command → ℕ → ℕ → ℕ → ℕ → Command
on_io which namespace word10 word11 word12 = record {
  lane = Io;
  opcode = commands.opcode_of which;
  nsid = namespace;
  cdw10 = word10;
  cdw11 = word11;
  cdw12 = word12;
}

abbrev pub on_admin : standard_admin.AdminCommand → ℕ → ℕ → ℕ → Command
on_admin which namespace word10 word11 = record {
  lane = Admin;
  opcode = admin_commands.opcode_of which;
  nsid = namespace;
  cdw10 = word10;
  cdw11 = word11;
  cdw12 = 0;
}

-- a command on blocks: Starting LBA in double words 10 and 11, Number of Logical Blocks, one less, in 12
abbrev pub on_blocks : standard.Command → ℕ → ℕ → ℕ → Command
on_blocks which namespace slba blocks = on_io which namespace (slba % 2 ^ 32) (slba / 2 ^ 32) (blocks - 1)

-- a command on a reservation: the action in bits 2:0 of double word 10, the rest of it from bit 3
abbrev pub on_reservation : standard.Command → ℕ → ℕ → ℕ → Command
on_reservation which namespace action rest = on_io which namespace (action + rest) 0 0

-- a command without data, one that receives data from the controller, and one that sends data to it
abbrev pub without_data : Command → Asked
without_data which = record { command = which; moved = 0; sent = []; received = 0 }

abbrev pub receiving : Command → ℕ → Asked
receiving which count = record { command = which; moved = count; sent = []; received = count }

abbrev pub sending : Command → ℕ → List ℕ → Asked
sending which count bytes = record { command = which; moved = count; sent = bytes; received = 0 }

-- keys, of eight bytes each
abbrev pub key : ℕ → List ℕ
key k = to_le_bytes w64 k

-- a Controller List: the number of identifiers, the identifiers, and zeros to the end of the page
unfoldable pub controller_list : List ℕ → List ℕ
controller_list list =
    to_le_bytes w16 (length list) ++ flat_map (to_le_bytes w16) list ++ replicate (4094 - 2 * length list) 0

abbrev pub bit : Bool → ℕ
bit b = if b then 1 else 0

abbrev pub asked_of : Request → Asked
asked_of (Read nsid slba blocks) = receiving (on_blocks io.Read nsid slba blocks) (block_size * blocks)
asked_of (Write nsid slba bytes) =
    sending (on_blocks io.Write nsid slba (length bytes.now / block_size)) (length bytes.now) bytes.now
asked_of (Compare nsid slba bytes) =
    sending (on_blocks io.Compare nsid slba (length bytes.now / block_size)) (length bytes.now) bytes.now
asked_of (WriteZeroes nsid slba blocks) = without_data (on_blocks io.WriteZeroes nsid slba blocks)
asked_of (Flush nsid) = without_data (on_io io.Flush nsid 0 0 0)
asked_of (Register nsid action iekey cptpl crkey nrkey) =
    sending (on_reservation io.ReservationRegister nsid action (2 ^ 3 * bit iekey + 2 ^ 30 * cptpl)) 16
    (key crkey ++ key nrkey)
asked_of (Acquire nsid action rtype crkey prkey) =
    sending (on_reservation io.ReservationAcquire nsid action (2 ^ 8 * rtype)) 16 (key crkey ++ key prkey)
asked_of (Release nsid action rtype crkey) =
    sending (on_reservation io.ReservationRelease nsid action (2 ^ 8 * rtype)) 8 (key crkey)
asked_of (Report nsid dwords) = receiving (on_io io.ReservationReport nsid (dwords - 1) 1 0) (4 * dwords)
asked_of (Identify cns nsid) = receiving (on_admin admin.Identify nsid cns 0) memory_page
asked_of (Protect nsid state) = without_data (on_admin admin.SetFeatures nsid admin_commands.write_protection state)
asked_of (Protection nsid) = without_data (on_admin admin.GetFeatures nsid admin_commands.write_protection 0)
asked_of (Attach nsid list) =
    sending (on_admin admin.NamespaceAttachment nsid 0 0) memory_page (controller_list list.now)
asked_of (Detach nsid list) =
    sending (on_admin admin.NamespaceAttachment nsid 1 0) memory_page (controller_list list.now)

-- data are whole blocks, 1 to 256
abbrev pub are_whole_blocks : List ℕ → Bool
are_whole_blocks bytes =
    not (length bytes == 0) && (length bytes % block_size == 0) && not (nat_lt most_bytes (length bytes))

-- a request that no command can express
abbrev pub is_bad : Request → Bool
is_bad (Read nsid slba blocks) = (blocks == 0) || nat_lt most_blocks blocks
is_bad (Write nsid slba bytes) = not (are_whole_blocks bytes.now)
is_bad (Compare nsid slba bytes) = not (are_whole_blocks bytes.now)
is_bad (WriteZeroes nsid slba blocks) = (blocks == 0) || nat_lt 65536 blocks
is_bad (Flush nsid) = false
is_bad (Register nsid action iekey cptpl crkey nrkey) = nat_lt 7 action || nat_lt 3 cptpl
is_bad (Acquire nsid action rtype crkey prkey) = nat_lt 7 action
is_bad (Release nsid action rtype crkey) = nat_lt 7 action
is_bad (Report nsid dwords) = (dwords == 0) || nat_lt 32768 dwords
is_bad (Identify cns nsid) = false
is_bad (Protect nsid state) = nat_lt 7 state
is_bad (Protection nsid) = false
is_bad (Attach nsid list) = nat_lt longest_controller_list (length list.now)
is_bad (Detach nsid list) = nat_lt longest_controller_list (length list.now)
