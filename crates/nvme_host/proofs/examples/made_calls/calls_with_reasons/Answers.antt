use Rattle.nvme_host.proofs.MadeCalls.{
  command_reason,
  poll_refused,
  question_reason,
  question_refused,
  refused_poll_keeps_bytes,
  request_reason,
  request_refused,
}
use Rattle.nvme_host.proofs.examples.made_calls.calls_with_reasons.Goals as goal

pub returns-clause-poll : goal.returns-clause-poll
returns-clause-poll c = poll_refused

pub returns-clause-poll_of_bytes : goal.returns-clause-poll_of_bytes
returns-clause-poll_of_bytes c = refused_poll_keeps_bytes

pub returns-clause-request : goal.returns-clause-request
returns-clause-request c = request_refused

pub returns-clause-request_code : goal.returns-clause-request_code
returns-clause-request_code c = request_reason

pub returns-clause-command_code : goal.returns-clause-command_code
returns-clause-command_code c = command_reason

pub returns-clause-question : goal.returns-clause-question
returns-clause-question c = question_refused

pub returns-clause-question_code : goal.returns-clause-question_code
returns-clause-question_code c = question_reason
