-- The I/O commands: their opcodes, their fields and the data that they transfer (NVM Command Set Specification: Flush,
-- Write, Read, Compare, Write Zeroes; Base Specification: Reservation Register, Report, Acquire, Release).
use Rattle.std.specs.Prelude.{ℕ, ◌+◌, ◌*◌, ◌%◌, ◌^◌, ◌==◌, Bool, if◌then◌else◌, List, [], ◌∷◌, Option, None, Some}
use Rattle.nvme_wire.specs.Entry.{bits}
use Rattle.nvme_spec.specs.Opcodes.{command_with, is_among}
use Rattle.nvme_wire.specs.Submission.{cdw10, cdw11, cdw12}
use Rattle.nvme_spec.specs.declared.access.Group.{Group}
use Rattle.nvme_spec.specs.declared.access.Group.TheVariants.{Read as Reading, Write as Writing}
use Rattle.nvme_spec.specs.declared.command.Command.{Command}
use Rattle.nvme_spec.specs.declared.command.Command.TheVariants.{
  Flush,
  Write,
  Read,
  Compare,
  WriteZeroes,
  ReservationRegister,
  ReservationReport,
  ReservationAcquire,
  ReservationRelease,
}
use Rattle.nvme_spec.specs.declared.command.CommandKind.{CommandKind}
use Rattle.nvme_spec.specs.declared.command.CommandKind.TheVariants.{OnBlocks, OnReservation, OnReport}
use Rattle.nvme_spec.specs.declared.verdict.Plan.{Plan}
use Rattle.nvme_spec.specs.Limits.{block_size}

abbrev pub opcode_of : Command → ℕ
opcode_of Flush = 0x00
opcode_of Write = 0x01
opcode_of Read = 0x02
opcode_of Compare = 0x05
opcode_of WriteZeroes = 0x08
opcode_of ReservationRegister = 0x0d
opcode_of ReservationReport = 0x0e
opcode_of ReservationAcquire = 0x11
opcode_of ReservationRelease = 0x15

abbrev pub all_commands : List Command
all_commands =
    Flush ∷ Write ∷ Read ∷ Compare ∷ WriteZeroes
    ∷ ReservationRegister ∷ ReservationReport ∷ ReservationAcquire ∷ ReservationRelease ∷ []

-- the command with this opcode
unfoldable pub command_of : ℕ → Option Command
command_of opcode = command_with opcode_of all_commands opcode

-- there is a command, and it is one of these
abbrev pub is_one_of : Option Command → List Command → Bool
is_one_of command commands = is_among opcode_of command commands

-- The fields of an entry.

-- Starting LBA (SLBA): double words 10 and 11
unfoldable pub starting_lba : List ℕ → ℕ
starting_lba e = cdw10 e + 2 ^ 32 * cdw11 e

-- the number of blocks: one more than Number of Logical Blocks (NLB), bits 15:0 of double word 12
unfoldable pub block_count : List ℕ → ℕ
block_count e = cdw12 e % 2 ^ 16 + 1

-- the action of a reservation command (RREGA, RACQA, RRELA): bits 2:0 of double word 10
unfoldable pub action : List ℕ → ℕ
action e = bits (cdw10 e) 2 0

-- Ignore Existing Key (IEKEY): bit 3
unfoldable pub iekey : List ℕ → Bool
iekey e = bits (cdw10 e) 3 3 == 1

-- Change Persist Through Power Loss State (CPTPL): bits 31:30
unfoldable pub cptpl : List ℕ → ℕ
cptpl e = bits (cdw10 e) 31 30

-- Reservation Type (RTYPE): bits 15:8
unfoldable pub rtype : List ℕ → ℕ
rtype e = bits (cdw10 e) 15 8

-- Extended Data Structure (EDS): bit 0 of double word 11
unfoldable pub eds : List ℕ → Bool
eds e = bits (cdw11 e) 0 0 == 1

-- the bytes of a report: 4 for each double word, one more than Number of Dwords (NUMD)
unfoldable pub report_length : List ℕ → ℕ
report_length e = 4 * (cdw10 e + 1)

-- the length of the data that a command transfers between host and controller
abbrev pub data_length : Command → List ℕ → ℕ
data_length Flush e = 0
data_length Write e = block_size * block_count e
data_length Read e = block_size * block_count e
data_length Compare e = block_size * block_count e
data_length WriteZeroes e = 0
data_length ReservationRegister e = 16
data_length ReservationReport e = report_length e
data_length ReservationAcquire e = 16
data_length ReservationRelease e = 8

abbrev pub data_length_of : Option Command → List ℕ → ℕ
data_length_of None e = 0
data_length_of (Some command) e = data_length command e

-- the commands that count as reading, and as writing, for a reservation
abbrev pub readers : List Command
readers = Read ∷ Compare ∷ []

abbrev pub writers : List Command
writers = Write ∷ WriteZeroes ∷ Flush ∷ []

abbrev pub group_of : Command → Option Group
group_of command =
    if is_one_of (Some command) readers then Some Reading
    else (if is_one_of (Some command) writers then Some Writing else None)

-- the commands that transfer blocks between host and controller
abbrev pub moving : List Command
moving = Read ∷ Write ∷ Compare ∷ []

-- the commands that change blocks
abbrev pub altering : List Command
altering = Write ∷ WriteZeroes ∷ []

-- the commands that name a range of blocks
abbrev pub ranged : List Command
ranged = Read ∷ Write ∷ Compare ∷ WriteZeroes ∷ []

-- the commands that act on a reservation, and those that report one; all others work on blocks
abbrev pub reserving : List Command
reserving = ReservationRegister ∷ ReservationAcquire ∷ ReservationRelease ∷ []

abbrev pub reporting : List Command
reporting = ReservationReport ∷ []

abbrev pub kind_of : Command → CommandKind
kind_of command =
    if is_one_of (Some command) reserving then OnReservation
    else (if is_one_of (Some command) reporting then OnReport else OnBlocks)

abbrev pub plan_of : Command → List ℕ → Plan
plan_of command e = record {
  kind = command;
  first = if is_one_of (Some command) ranged then starting_lba e else 0;
  blocks = if is_one_of (Some command) ranged then block_count e else 0;
  bytes = data_length command e;
}

-- Optional NVM Command Support (ONCS): Compare is bit 0, Write Zeroes bit 3, the commands on reservations are bit 5
abbrev pub optional_commands : ℕ
optional_commands = 2 ^ 0 + 2 ^ 3 + 2 ^ 5
