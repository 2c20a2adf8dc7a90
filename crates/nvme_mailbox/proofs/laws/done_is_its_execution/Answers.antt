use Rattle.nvme_mailbox.proofs.Answered.{new_is_clear, reset_clears, done_is_its_execution}
use Rattle.nvme_mailbox.proofs.TicketNames.{ticket_names_its_request, done_answers_its_request}
use Rattle.nvme_mailbox.proofs.laws.done_is_its_execution.Goals as goal

pub returns : goal.returns
returns c = record {
  new = new_is_clear;
  reset = reset_clears;
  done = done_is_its_execution;
  names = ticket_names_its_request;
  request = done_answers_its_request;
}
