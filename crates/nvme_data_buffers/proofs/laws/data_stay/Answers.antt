use Rattle.nvme_data_buffers.proofs.Stores.{own-data-stay, returned-data-stay}
use Rattle.nvme_data_buffers.proofs.laws.data_stay.Goals as goal

pub returns-clause-own : goal.returns-clause-own
returns-clause-own c = own-data-stay

pub returns-clause-returned : goal.returns-clause-returned
returns-clause-returned c = returned-data-stay
