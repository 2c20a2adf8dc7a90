use Rattle.nvme_data_buffers.proofs.Placed.{other-bytes-stay}
use Rattle.nvme_data_buffers.proofs.OwnData.{moves-as-many}
use Rattle.nvme_data_buffers.proofs.laws.entries.Goals as goal

pub returns-clause-others : goal.returns-clause-others
returns-clause-others c = other-bytes-stay

pub returns-clause-moved : goal.returns-clause-moved
returns-clause-moved c = moves-as-many
