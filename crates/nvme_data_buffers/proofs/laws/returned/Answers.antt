use Rattle.nvme_data_buffers.proofs.Returned.{nothing-old-is-returned, filled-are-reads}
use Rattle.nvme_data_buffers.proofs.laws.returned.Goals as goal

pub returns-clause-cleared : goal.returns-clause-cleared
returns-clause-cleared c = nothing-old-is-returned

pub returns-clause-filled : goal.returns-clause-filled
returns-clause-filled c = filled-are-reads
