use Rattle.nvme_host.proofs.MadeCalls.{checked_gives, checked_stage, checking_gives}
use Rattle.nvme_host.proofs.examples.made_calls.reached_statuses.Goals as goal

pub returns-clause-gives : goal.returns-clause-gives
returns-clause-gives c = checked_gives

pub returns-clause-stage : goal.returns-clause-stage
returns-clause-stage c = checked_stage

pub returns-clause-made : goal.returns-clause-made
returns-clause-made c = checking_gives
