use Rattle.nvme_host.proofs.Following.{looks_where_the_driver_looks}
use Rattle.nvme_host.proofs.laws.heads.Goals as goal

pub returns : goal.returns
returns c = looks_where_the_driver_looks
