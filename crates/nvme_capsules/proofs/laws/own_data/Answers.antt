use Rattle.nvme_capsules.proofs.OwnData.{own-data}
use Rattle.nvme_capsules.proofs.laws.own_data.Goals as goal

pub returns : goal.returns
returns c = own-data
