-- The effect of an allowed admin command: double word 0 of its completion, the data for the host, the change of the
-- queues and of the world (Base Specification: Create and Delete I/O Completion Queue, Create and Delete I/O Submission
-- Queue, Identify, Set Features, Get Features, Namespace Attachment).
use Rattle.std.specs.Prelude.{ℕ, ◌==◌, if◌then◌else◌, List, [], Option, None, Some, unwrap_or, Ok, Err}
use Rattle.std.specs.Int.{w128, to_le_bytes}
use Rattle.nvme_wire.specs.Submission.{opcode, nsid, prp1}
use Rattle.nvme_wire.specs.declared.status.Status.{Status}
use Rattle.nvme_spec.specs.declared.command.AdminCommand.{AdminCommand}
use Rattle.nvme_spec.specs.declared.command.AdminCommand.TheVariants.{
  DeleteSubmissionQueue,
  CreateSubmissionQueue,
  DeleteCompletionQueue,
  CreateCompletionQueue,
  Identify,
  SetFeatures,
  GetFeatures,
  NamespaceAttachment,
}
use Rattle.nvme_spec.specs.declared.queues.Queues.{Queues}
use Rattle.nvme_spec.specs.declared.queues.QueueChange.{QueueChange}
use Rattle.nvme_spec.specs.declared.queues.QueueChange.TheVariants.{Keep, MakeCq, MakeSq, DropCq, DropSq}
use Rattle.nvme_spec.specs.Transfers.{with_scattered}
use Rattle.nvme_spec.specs.World.{World, Namespace, host_of, namespace_of, with_protection}
use Rattle.nvme_spec.specs.Rules.{Judgement}
use Rattle.nvme_spec.specs.Attachments.{AttachmentOutcome}
use Rattle.nvme_spec.specs.Identify.{identify_attached, identify_controller, namespace_list, attached_above}
use Rattle.nvme_spec.specs.AdminCommands.{
  command_of,
  data_length,
  qid,
  queue_size,
  cqid,
  cns,
  namespace_structure,
  controller_structure,
  fid,
  number_of_queues,
  host_identifier,
  write_protection,
  wps,
  protection_of,
  state_of,
}
use Rattle.nvme_spec.specs.DataRules.{data_addresses}
use Rattle.nvme_spec.specs.AdminRules.{data_of, attachment_outcome, admin_judgement}
use Rattle.nvme_spec.specs.Statuses as status

-- Number of Queues: four I/O submission queues and four I/O completion queues, zero-based, whatever was requested
abbrev pub allocated_queues : ℕ
allocated_queues = 0x00030003

-- Namespace Write Protection: the state of the namespace
abbrev pub protection_value : Option Namespace → ℕ
protection_value None = 0
protection_value (Some n) = state_of n.protection

-- double word 0 of the completion
unfoldable pub double_word_0 : World → AdminCommand → List ℕ → ℕ
double_word_0 w SetFeatures e = if fid e == number_of_queues then allocated_queues else 0
double_word_0 w GetFeatures e =
    if fid e == number_of_queues then allocated_queues
    else (if fid e == write_protection then protection_value (namespace_of w (nsid e))
    else 0)
double_word_0 w command e = 0

-- the data for the cns of an Identify
abbrev pub identify_data : World → ℕ → List ℕ → List ℕ
identify_data w cntlid e =
    if cns e == namespace_structure then identify_attached w cntlid (nsid e)
    else (if cns e == controller_structure then identify_controller cntlid
    else namespace_list (attached_above w cntlid (nsid e)))

-- the data for the host
unfoldable pub data_out : World → ℕ → AdminCommand → List ℕ → List ℕ
data_out w cntlid Identify e = identify_data w cntlid e
data_out w cntlid GetFeatures e =
    if fid e == host_identifier then to_le_bytes w128 (unwrap_or (host_of w cntlid) 0) else []
data_out w cntlid command e = []

-- the change of the queues
unfoldable pub queue_change : AdminCommand → List ℕ → QueueChange
queue_change DeleteSubmissionQueue e = DropSq (qid e)
queue_change CreateSubmissionQueue e = MakeSq (qid e) (queue_size e) (prp1 e) (cqid e)
queue_change DeleteCompletionQueue e = DropCq (qid e)
queue_change CreateCompletionQueue e = MakeCq (qid e) (queue_size e) (prp1 e)
queue_change command e = Keep

abbrev pub world_of : World → AttachmentOutcome → World
world_of w (Ok next) = next
world_of w (Err refusal) = w

-- the world after the command, by the data from the host
unfoldable pub world_after : World → AdminCommand → List ℕ → List ℕ → World
world_after w SetFeatures e sent =
    if fid e == write_protection then with_protection w (nsid e) (protection_of (wps e)) else w
world_after w NamespaceAttachment e sent = world_of w (attachment_outcome w e sent)
world_after w command e sent = w

-- The execution of an admin command: its completion's status and double word 0, the number of the rule that denied it
-- or 0, the change of the queues, and the world and the host's memory after it.
pub record AdminExecution : Type 0 where
  pub status : Status
  pub dw0 : ℕ
  pub rule : ℕ
  pub change : QueueChange
  pub world : World
  pub window : List ℕ

-- it is denied: nothing changes
abbrev pub denial : World → List ℕ → ℕ → Status → AdminExecution
denial w window number why = record { status = why; dw0 = 0; rule = number; change = Keep; world = w; window = window }

-- it is allowed: the data are in host memory, the first byte at the first address
abbrev pub performance : World → ℕ → List ℕ → AdminCommand → List ℕ → AdminExecution
performance w cntlid window command e = record {
  status = status.successful_completion;
  dw0 = double_word_0 w command e;
  rule = 0;
  change = queue_change command e;
  world = world_after w command e (data_of window e);
  window = with_scattered window (data_addresses (data_length command e) window e) (data_out w cntlid command e);
}

abbrev pub execution_by : Judgement → Option AdminCommand → World → ℕ → List ℕ → List ℕ → AdminExecution
execution_by (Err d) command w cntlid e window = denial w window d.rule d.status
execution_by (Ok u) None w cntlid e window = denial w window 2 status.invalid_command_opcode
execution_by (Ok u) (Some command) w cntlid e window = performance w cntlid window command e

-- the execution of an admin command of a controller, by its queues and its host's memory
unfoldable pub admin_execution : World → Queues → ℕ → List ℕ → List ℕ → AdminExecution
admin_execution w queues cntlid e window =
    execution_by (admin_judgement w queues cntlid e window) (command_of (opcode e)) w cntlid e window
