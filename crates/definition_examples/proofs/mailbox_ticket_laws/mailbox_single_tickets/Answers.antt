use Rattle.definition_examples.proofs.MailboxTicketLaws.{
  mailbox_single_tickets_given,
  mailbox_single_tickets_executed,
  mailbox_single_tickets_delivered,
  mailbox_single_tickets_kept,
}
use Rattle.definition_examples.proofs.mailbox_ticket_laws.mailbox_single_tickets.Goals as goal

pub returns-clause-given : goal.returns-clause-given
returns-clause-given c = mailbox_single_tickets_given

pub returns-clause-executed : goal.returns-clause-executed
returns-clause-executed c = mailbox_single_tickets_executed

pub returns-clause-delivered : goal.returns-clause-delivered
returns-clause-delivered c = mailbox_single_tickets_delivered

pub returns-clause-kept : goal.returns-clause-kept
returns-clause-kept c = mailbox_single_tickets_kept
