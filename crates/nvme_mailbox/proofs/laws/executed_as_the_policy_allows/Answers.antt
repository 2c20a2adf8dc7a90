use Rattle.nvme_mailbox.proofs.Numbered.{opening_is_numbered, numbers_stay}
use Rattle.nvme_mailbox.proofs.IoExecutions.{executed_as_the_policy_allows}
use Rattle.nvme_mailbox.proofs.laws.executed_as_the_policy_allows.Goals as goal

pub returns : goal.returns
returns c = record {
  opening = opening_is_numbered;
  numbers = numbers_stay;
  executed = executed_as_the_policy_allows;
}
