use Rattle.nvme_host.proofs.Tickets.{delivers_given_tickets_once}
use Rattle.nvme_host.proofs.laws.tickets.Goals as goal

pub returns : goal.returns
returns c = delivers_given_tickets_once
