use Rattle.nvme_host.proofs.MadeCalls.{
  bring_up_capabilities,
  bring_up_facts,
  bring_up_stage,
  brought_up_facts,
  next_status_is_read,
}
use Rattle.nvme_host.proofs.examples.made_calls.bring_ups_and_reads.Goals as goal

pub returns-clause-stage : goal.returns-clause-stage
returns-clause-stage c = bring_up_stage

pub returns-clause-capabilities : goal.returns-clause-capabilities
returns-clause-capabilities c = bring_up_capabilities

pub returns-clause-facts : goal.returns-clause-facts
returns-clause-facts c = bring_up_facts

pub returns-clause-made : goal.returns-clause-made
returns-clause-made c = brought_up_facts

pub returns-clause-read : goal.returns-clause-read
returns-clause-read c = next_status_is_read
