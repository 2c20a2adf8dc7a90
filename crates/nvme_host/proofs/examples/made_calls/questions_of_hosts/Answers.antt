use Rattle.nvme_host.proofs.MadeCalls.{asked_capabilities, asked_facts, asked_stage}
use Rattle.nvme_host.proofs.examples.made_calls.questions_of_hosts.Goals as goal

pub returns-clause-stage : goal.returns-clause-stage
returns-clause-stage c = asked_stage

pub returns-clause-capabilities : goal.returns-clause-capabilities
returns-clause-capabilities c = asked_capabilities

pub returns-clause-facts : goal.returns-clause-facts
returns-clause-facts c = asked_facts
