-- The admin commands: their opcodes, their fields and the data that they transfer (Base Specification: Admin Command
-- Set; Create and Delete I/O Completion Queue, Create and Delete I/O Submission Queue, Identify, Set Features and Get
-- Features with Number of Queues, Host Identifier and Namespace Write Protection Config, Namespace Attachment).
use Rattle.std.specs.Prelude.{ℕ, ◌+◌, ◌==◌, Bool, ◌&&◌, if◌then◌else◌, List, [], ◌∷◌, Option, None, Some}
use Rattle.nvme_wire.specs.Entry.{bits}
use Rattle.nvme_spec.specs.Opcodes.{command_with, is_among}
use Rattle.nvme_wire.specs.Submission.{cdw10, cdw11}
use Rattle.nvme_spec.specs.declared.access.Protection.{Protection}
use Rattle.nvme_spec.specs.declared.access.Protection.TheVariants.{Open, Protected, UntilCycle}
use Rattle.nvme_spec.specs.declared.command.AdminCommand.{AdminCommand}
use Rattle.nvme_spec.specs.declared.command.AdminCommand.TheVariants.{
  DeleteSubmissionQueue,
  CreateSubmissionQueue,
  DeleteCompletionQueue,
  CreateCompletionQueue,
  Identify,
  SetFeatures,
  GetFeatures,
  NamespaceAttachment,
}

abbrev pub opcode_of : AdminCommand → ℕ
opcode_of DeleteSubmissionQueue = 0x00
opcode_of CreateSubmissionQueue = 0x01
opcode_of DeleteCompletionQueue = 0x04
opcode_of CreateCompletionQueue = 0x05
opcode_of Identify = 0x06
opcode_of SetFeatures = 0x09
opcode_of GetFeatures = 0x0a
opcode_of NamespaceAttachment = 0x15

abbrev pub all_commands : List AdminCommand
all_commands =
    DeleteSubmissionQueue ∷ CreateSubmissionQueue ∷ DeleteCompletionQueue ∷ CreateCompletionQueue
    ∷ Identify ∷ SetFeatures ∷ GetFeatures ∷ NamespaceAttachment ∷ []

-- the command with this opcode
unfoldable pub command_of : ℕ → Option AdminCommand
command_of opcode = command_with opcode_of all_commands opcode

-- there is a command, and it is one of these
abbrev pub is_one_of : Option AdminCommand → List AdminCommand → Bool
is_one_of command commands = is_among opcode_of command commands

-- The fields of an entry.

-- Queue Identifier (QID): bits 15:0 of double word 10
unfoldable pub qid : List ℕ → ℕ
qid e = bits (cdw10 e) 15 0

-- the number of entries: one more than Queue Size (QSIZE), bits 31:16
unfoldable pub queue_size : List ℕ → ℕ
queue_size e = bits (cdw10 e) 31 16 + 1

-- Physically Contiguous (PC): bit 0 of double word 11
unfoldable pub pc : List ℕ → Bool
pc e = bits (cdw11 e) 0 0 == 1

-- Completion Queue Identifier (CQID) of a submission queue: bits 31:16 of double word 11
unfoldable pub cqid : List ℕ → ℕ
cqid e = bits (cdw11 e) 31 16

-- Controller or Namespace Structure (CNS): bits 7:0 of double word 10
unfoldable pub cns : List ℕ → ℕ
cns e = bits (cdw10 e) 7 0

-- the structures: a namespace, the controller, the list of the namespaces that are attached to it
abbrev pub namespace_structure : ℕ
namespace_structure = 0x00

abbrev pub controller_structure : ℕ
controller_structure = 0x01

abbrev pub namespace_list_structure : ℕ
namespace_list_structure = 0x02

-- Feature Identifier (FID): bits 7:0 of double word 10
unfoldable pub fid : List ℕ → ℕ
fid e = bits (cdw10 e) 7 0

abbrev pub number_of_queues : ℕ
number_of_queues = 0x07

abbrev pub host_identifier : ℕ
host_identifier = 0x81

abbrev pub write_protection : ℕ
write_protection = 0x84

-- Save (SV): bit 31 of double word 10
unfoldable pub sv : List ℕ → Bool
sv e = bits (cdw10 e) 31 31 == 1

-- Number of I/O Submission Queues Requested (NSQR) and Number of I/O Completion Queues Requested (NCQR): the halves of
-- double word 11
unfoldable pub nsqr : List ℕ → ℕ
nsqr e = bits (cdw11 e) 15 0

unfoldable pub ncqr : List ℕ → ℕ
ncqr e = bits (cdw11 e) 31 16

-- Write Protection State (WPS): bits 2:0 of double word 11; 0 is none, 1 write protected, 2 write protected until a
-- power cycle
unfoldable pub wps : List ℕ → ℕ
wps e = bits (cdw11 e) 2 0

abbrev pub protection_of : ℕ → Protection
protection_of state = if state == 0 then Open else (if state == 1 then Protected else UntilCycle)

abbrev pub state_of : Protection → ℕ
state_of Open = 0
state_of Protected = 1
state_of UntilCycle = 2

-- Enable Extended Host Identifier (EXHID): bit 0 of double word 11
unfoldable pub exhid : List ℕ → Bool
exhid e = bits (cdw11 e) 0 0 == 1

-- Select (SEL) of Namespace Attachment: bits 3:0 of double word 10; 0 attaches, 1 detaches
unfoldable pub sel : List ℕ → ℕ
sel e = bits (cdw10 e) 3 0

-- the command sets or gets this feature
abbrev pub names_feature : Option AdminCommand → ℕ → List ℕ → Bool
names_feature command feature e = is_one_of command (SetFeatures ∷ GetFeatures ∷ []) && fid e == feature

-- the command is an Identify with this cns
abbrev pub asks_for : Option AdminCommand → ℕ → List ℕ → Bool
asks_for command which e = is_one_of command (Identify ∷ []) && cns e == which

-- the length of the data that a command transfers between host and controller
abbrev pub data_length : AdminCommand → List ℕ → ℕ
data_length DeleteSubmissionQueue e = 0
data_length CreateSubmissionQueue e = 0
data_length DeleteCompletionQueue e = 0
data_length CreateCompletionQueue e = 0
data_length Identify e = 4096
data_length SetFeatures e = 0
data_length GetFeatures e = if fid e == host_identifier then 16 else 0
data_length NamespaceAttachment e = 4096

abbrev pub data_length_of : Option AdminCommand → List ℕ → ℕ
data_length_of None e = 0
data_length_of (Some command) e = data_length command e
