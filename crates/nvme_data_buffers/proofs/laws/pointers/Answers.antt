use Rattle.nvme_data_buffers.proofs.Pointers.{entries-reach, nothing-beyond}
use Rattle.nvme_data_buffers.proofs.laws.pointers.Goals as goal

pub returns-clause-reach : goal.returns-clause-reach
returns-clause-reach c = entries-reach

pub returns-clause-beyond : goal.returns-clause-beyond
returns-clause-beyond c = nothing-beyond
