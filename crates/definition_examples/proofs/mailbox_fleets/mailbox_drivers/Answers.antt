use Rattle.definition_examples.proofs.MailboxFleets.{
  mailbox_drivers_controller,
  mailbox_drivers_not_raw,
  mailbox_drivers_enough,
}
use Rattle.definition_examples.proofs.mailbox_fleets.mailbox_drivers.Goals as goal

pub returns-clause-controller : goal.returns-clause-controller
returns-clause-controller c = mailbox_drivers_controller

pub returns-clause-not_raw : goal.returns-clause-not_raw
returns-clause-not_raw c = mailbox_drivers_not_raw

pub returns-clause-enough : goal.returns-clause-enough
returns-clause-enough c = mailbox_drivers_enough
