use Rattle.definition_examples.proofs.MailboxTicketLaws.{mailbox_balanced_tickets_answered}
use Rattle.definition_examples.proofs.mailbox_ticket_laws.mailbox_balanced_tickets.Goals as goal

pub returns : goal.returns
returns c = record { answered = mailbox_balanced_tickets_answered }
