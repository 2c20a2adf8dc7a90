use Rattle.nvme_data_buffers.proofs.Areas.{stores-keep-other-areas, stored-list-is-there, stores-keep-the-list}
use Rattle.nvme_data_buffers.proofs.laws.stores.Goals as goal

pub returns-clause-others : goal.returns-clause-others
returns-clause-others c = stores-keep-other-areas

pub returns-clause-there : goal.returns-clause-there
returns-clause-there c = stored-list-is-there

pub returns-clause-list : goal.returns-clause-list
returns-clause-list c = stores-keep-the-list
