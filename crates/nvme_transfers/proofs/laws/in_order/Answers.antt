use Rattle.nvme_transfers.proofs.Ordered.{in-order}
use Rattle.nvme_transfers.proofs.Flights.{one-of-each}
use Rattle.nvme_transfers.proofs.laws.in_order.Goals as goal

pub returns-clause-requests : goal.returns-clause-requests
returns-clause-requests c = in-order

pub returns-clause-identifiers : goal.returns-clause-identifiers
returns-clause-identifiers c = one-of-each
