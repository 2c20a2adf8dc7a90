use Rattle.nvme_mailbox.proofs.TicketRuns.{tickets_balance}
use Rattle.nvme_mailbox.proofs.laws.tickets_balance.Goals as goal

pub returns-clause-balance : goal.returns-clause-balance
returns-clause-balance c = tickets_balance
