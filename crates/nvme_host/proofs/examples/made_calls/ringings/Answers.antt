use Rattle.nvme_host.proofs.MadeCalls.{ringing_driver, rung_capabilities, rung_facts, rung_gives, rung_stage}
use Rattle.nvme_host.proofs.examples.made_calls.ringings.Goals as goal

pub returns-clause-gives : goal.returns-clause-gives
returns-clause-gives c = rung_gives

pub returns-clause-stage : goal.returns-clause-stage
returns-clause-stage c = rung_stage

pub returns-clause-capabilities : goal.returns-clause-capabilities
returns-clause-capabilities c = rung_capabilities

pub returns-clause-facts : goal.returns-clause-facts
returns-clause-facts c = rung_facts

pub returns-clause-made : goal.returns-clause-made
returns-clause-made c = ringing_driver
