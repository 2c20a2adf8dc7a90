use Rattle.nvme_mailbox.proofs.laws.tickets_go_once.Goals as goal
use Rattle.nvme_mailbox.proofs.TicketCounts.{each_ticket_goes_once, tickets_of_an_opening_go_once}

pub returns-clause-once : goal.returns-clause-once
returns-clause-once c = each_ticket_goes_once

pub returns-clause-opened : goal.returns-clause-opened
returns-clause-opened c = tickets_of_an_opening_go_once
