-- For the steps of bringing up: the two commands that create a driver's queues succeed, and change only the queues.
use Rattle.nvme_refinement.proofs.Words.{
  ◌≡◌,
  ℕ,
  true,
  false,
  List,
  [],
  ◌∷◌,
  length,
  None,
  Some,
  refl,
  Queues,
  QueueChange,
  MakeCq,
  MakeSq,
  World,
  AdminExecution,
  admin_execution,
  create_completion_queue,
  create_submission_queue,
  Completion,
  completion_entry,
}
use Rattle.nvme_wire.specs.Submission as entry
use Rattle.nvme_spec.specs.Statuses as status
use Rattle.nvme_spec.specs.Rules as rules
use Rattle.nvme_spec.specs.IoRules as io
use Rattle.nvme_spec.specs.Pointer as pointer
use Rattle.nvme_spec.specs.Transfers as transfers
use Rattle.nvme_spec.specs.DataRules as datarule
use Rattle.nvme_spec.specs.AdminCommands as admin
use Rattle.nvme_spec.specs.AdminRules as adminrule
use Rattle.nvme_spec.specs.AdminEffects as adminwork

-- an admin command that succeeds with this change of the queues, and leaves world and memory
abbrev pub only_change : QueueChange → World → List ℕ → AdminExecution
only_change change w window =
    record { status = status.successful_completion; dw0 = 0; rule = 0; change = change; world = w; window = window }

abbrev pub first_change : QueueChange
first_change = MakeCq 1 32 0x3000

abbrev pub second_change : QueueChange
second_change = MakeSq 1 8 0x2000 1

-- the queues that exist before each
abbrev pub admin_pair : Queues
admin_pair = record { cq = true ∷ false ∷ false ∷ false ∷ false ∷ []; sq = Some 0 ∷ None ∷ None ∷ None ∷ None ∷ [] }

abbrev pub with_completions : Queues
with_completions =
    record { cq = true ∷ true ∷ false ∷ false ∷ false ∷ []; sq = Some 0 ∷ None ∷ None ∷ None ∷ None ∷ [] }

pub completions-made : (w : World) (k : ℕ) (window : List ℕ)
    → admin_execution w admin_pair k (entry.submission_entry create_completion_queue) window
    ≡ only_change first_change w window
unfolding admin_execution entry.submission_entry entry.opcode entry.fuse entry.psdt entry.nsid entry.prp1 entry.prp2
    entry.cdw10 entry.cdw11 rules.judgement_by io.form_rule pointer.fault_of pointer.first_fault transfers.addresses
    transfers.with_scattered datarule.data_addresses datarule.pointer_rule admin.command_of admin.qid admin.queue_size
    admin.pc admin.cqid admin.cns admin.fid io.opcode_rule adminrule.nsid_rule adminrule.attachment_rule
    adminrule.completion_queue_rule adminrule.reservation_rule adminrule.list_rule adminrule.admin_judgement
    adminwork.double_word_0 adminwork.data_out adminwork.queue_change adminwork.world_after
completions-made w k window = refl

pub submissions-made : (w : World) (k : ℕ) (window : List ℕ)
    → admin_execution w with_completions k (entry.submission_entry create_submission_queue) window
    ≡ only_change second_change w window
unfolding admin_execution entry.submission_entry entry.opcode entry.fuse entry.psdt entry.nsid entry.prp1 entry.prp2
    entry.cdw10 entry.cdw11 rules.judgement_by io.form_rule pointer.fault_of pointer.first_fault transfers.addresses
    transfers.with_scattered datarule.data_addresses datarule.pointer_rule admin.command_of admin.qid admin.queue_size
    admin.pc admin.cqid admin.cns admin.fid io.opcode_rule adminrule.nsid_rule adminrule.attachment_rule
    adminrule.submission_queue_rule adminrule.reservation_rule adminrule.list_rule adminrule.admin_judgement
    adminwork.double_word_0 adminwork.data_out adminwork.queue_change adminwork.world_after
submissions-made w k window = refl

pub first-cid : entry.cid (entry.submission_entry create_completion_queue) ≡ 24
unfolding entry.cid entry.submission_entry
first-cid = refl

pub second-cid : entry.cid (entry.submission_entry create_submission_queue) ≡ 24
unfolding entry.cid entry.submission_entry
second-cid = refl

pub first-size : length (entry.submission_entry create_completion_queue) ≡ 64
unfolding entry.submission_entry
first-size = refl

pub second-size : length (entry.submission_entry create_submission_queue) ≡ 64
unfolding entry.submission_entry
second-size = refl

pub length-completion : (c : Completion) → length (completion_entry c) ≡ 16
unfolding completion_entry
length-completion c = refl
