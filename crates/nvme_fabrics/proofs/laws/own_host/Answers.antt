use Rattle.nvme_fabrics.proofs.OwnHosts.{own-host}
use Rattle.nvme_fabrics.proofs.laws.own_host.Goals as goal

pub returns : goal.returns
returns c = own-host
