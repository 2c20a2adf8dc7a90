use Rattle.nvme_transfers.proofs.Ending.{end-is-final}
use Rattle.nvme_transfers.proofs.laws.refused_keeps.Goals as goal

pub returns-clause-end : goal.returns-clause-end
returns-clause-end c = end-is-final
