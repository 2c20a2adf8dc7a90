use Rattle.nvme_host.proofs.ExportsDetermined.{exports_are_determined}
use Rattle.nvme_host.proofs.laws.exports_are_determined.Goals as goal

pub returns : goal.returns
returns c = exports_are_determined
