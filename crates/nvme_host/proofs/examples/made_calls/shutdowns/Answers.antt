use Rattle.nvme_host.proofs.MadeCalls.{
  resetting_gives,
  shut_capabilities,
  shut_facts,
  shut_gives,
  shut_stage,
  shutting_driver,
}
use Rattle.nvme_host.proofs.examples.made_calls.shutdowns.Goals as goal

pub returns-clause-gives : goal.returns-clause-gives
returns-clause-gives c = shut_gives

pub returns-clause-stage : goal.returns-clause-stage
returns-clause-stage c = shut_stage

pub returns-clause-capabilities : goal.returns-clause-capabilities
returns-clause-capabilities c = shut_capabilities

pub returns-clause-facts : goal.returns-clause-facts
returns-clause-facts c = shut_facts

pub returns-clause-made : goal.returns-clause-made
returns-clause-made c = shutting_driver

pub returns-clause-reset : goal.returns-clause-reset
returns-clause-reset c = resetting_gives
