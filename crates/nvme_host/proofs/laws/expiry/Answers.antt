use Rattle.nvme_host.proofs.Expiring.{expiry_stops_requests}
use Rattle.nvme_host.proofs.laws.expiry.Goals as goal

pub returns : goal.returns
returns c = expiry_stops_requests
