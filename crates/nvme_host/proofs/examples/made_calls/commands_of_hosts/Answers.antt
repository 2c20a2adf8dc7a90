use Rattle.nvme_host.proofs.MadeCalls.{command_capabilities, command_facts, command_gives, command_stage}
use Rattle.nvme_host.proofs.examples.made_calls.commands_of_hosts.Goals as goal

pub returns-clause-gives : goal.returns-clause-gives
returns-clause-gives c = command_gives

pub returns-clause-stage : goal.returns-clause-stage
returns-clause-stage c = command_stage

pub returns-clause-capabilities : goal.returns-clause-capabilities
returns-clause-capabilities c = command_capabilities

pub returns-clause-facts : goal.returns-clause-facts
returns-clause-facts c = command_facts
