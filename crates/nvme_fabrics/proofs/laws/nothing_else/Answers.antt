use Rattle.nvme_fabrics.proofs.RunLaws.{nothing-else}
use Rattle.nvme_fabrics.proofs.laws.nothing_else.Goals as goal

pub returns : goal.returns
returns c = nothing-else
