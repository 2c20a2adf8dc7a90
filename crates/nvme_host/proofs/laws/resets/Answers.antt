use Rattle.nvme_host.proofs.Tickets.{resets_abort}
use Rattle.nvme_host.proofs.laws.resets.Goals as goal

pub returns : goal.returns
returns c = resets_abort
