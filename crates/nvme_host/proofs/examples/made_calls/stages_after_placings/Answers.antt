use Rattle.nvme_host.proofs.MadeCalls.{commanding_stage, poll_stage, question_facts, request_stage}
use Rattle.nvme_host.proofs.examples.made_calls.stages_after_placings.Goals as goal

pub returns-clause-poll : goal.returns-clause-poll
returns-clause-poll c = poll_stage

pub returns-clause-request : goal.returns-clause-request
returns-clause-request c = request_stage

pub returns-clause-command : goal.returns-clause-command
returns-clause-command c = commanding_stage

pub returns-clause-question : goal.returns-clause-question
returns-clause-question c = question_facts
