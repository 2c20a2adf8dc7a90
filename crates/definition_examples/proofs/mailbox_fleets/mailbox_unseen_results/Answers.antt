use Rattle.definition_examples.proofs.MailboxFleets.{
  mailbox_unseen_results_up_already,
  mailbox_unseen_results_no_command,
}
use Rattle.definition_examples.proofs.mailbox_fleets.mailbox_unseen_results.Goals as goal

pub returns-clause-up_already : goal.returns-clause-up_already
returns-clause-up_already c = mailbox_unseen_results_up_already

pub returns-clause-no_command : goal.returns-clause-no_command
returns-clause-no_command c = mailbox_unseen_results_no_command
