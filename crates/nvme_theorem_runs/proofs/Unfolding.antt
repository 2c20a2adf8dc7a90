-- For all example runs: the definitions with which they are computed. Unfolding this one unfolds them all.
use Rattle.nvme_spec.specs.Commands.{action, block_count, command_of, cptpl, iekey, rtype, starting_lba}
use Rattle.nvme_spec.specs.DataRules.{data_addresses, pointer_rule}
use Rattle.nvme_spec.specs.Entries.{command_entry, transfer_entry}
use Rattle.nvme_spec.specs.FaultFree.{fault_free_execution}
use Rattle.nvme_spec.specs.FaultFreeCalls.{command_calls}
use Rattle.nvme_spec.specs.IoData.{action_outcome, action_rule, io_judgement, reservation_outcome}
use Rattle.nvme_spec.specs.IoRules.{
  attachment_rule,
  field_rule,
  form_rule,
  mark_rule,
  nsid_rule,
  opcode_rule,
  protection_rule,
  range_rule,
  reservation_rule,
}
use Rattle.nvme_spec.specs.Layout.{extent_of, may_read, may_write, reservation_of}
use Rattle.nvme_spec.specs.Memory.{qword}
use Rattle.nvme_spec.specs.Pointer.{fault_of, first_fault}
use Rattle.nvme_spec.specs.Power.{cycled_world}
use Rattle.nvme_spec.specs.Registers.{after_write, configured, doorbell, prepared, value_at}
use Rattle.nvme_spec.specs.Rules.{judgement_by}
use Rattle.nvme_spec.specs.Transfers.{addresses, with_scattered}
use Rattle.nvme_spec.specs.World.{host_of, is_attached, namespace_of, opening_world}
use Rattle.nvme_wire.specs.Completion.{completion_entry}
use Rattle.nvme_wire.specs.Submission.{cdw10, cdw11, cdw12, cid, fuse, nsid, opcode, prp1, prp2, psdt}
use Rattle.nvme_machine.specs.Controllers.{
  after_fetch,
  after_posting,
  after_queue_change,
  after_store,
  after_write32,
  fetchable,
  open_pair,
  taking_effect,
}
use Rattle.nvme_machine.specs.FaultFree.{fault_free_command_execution}
use Rattle.nvme_machine.specs.Subsystems.{
  after_completion,
  after_execution,
  after_power_cycle,
  controller_at,
  with_controller,
}
use Rattle.nvme_machine.specs.CommandExecutions.{CommandComesTo}
use Rattle.nvme_theorem_runs.specs.Cluster.{cluster}

unfoldable pub computing : Unit {0}
unfolding action block_count command_of cptpl iekey rtype starting_lba data_addresses pointer_rule command_entry
    transfer_entry fault_free_execution command_calls action_outcome action_rule io_judgement reservation_outcome
    attachment_rule field_rule form_rule mark_rule nsid_rule opcode_rule protection_rule range_rule reservation_rule
    extent_of may_read may_write reservation_of qword fault_of first_fault cycled_world after_write configured
    doorbell prepared value_at judgement_by addresses with_scattered host_of is_attached namespace_of opening_world
    completion_entry cdw10 cdw11 cdw12 cid fuse nsid opcode prp1 prp2 psdt after_fetch after_posting
    after_queue_change after_store after_write32 fetchable open_pair taking_effect fault_free_command_execution
    after_completion after_execution after_power_cycle controller_at with_controller CommandComesTo cluster
computing = tt
