use Rattle.nvme_transfers.proofs.OwnParts.{own-data}
use Rattle.nvme_transfers.proofs.Rooms.{room-has-data}
use Rattle.nvme_transfers.proofs.laws.own_data.Goals as goal

pub returns-clause-parts : goal.returns-clause-parts
returns-clause-parts c = own-data

pub returns-clause-bytes : goal.returns-clause-bytes
returns-clause-bytes c = room-has-data
