use Rattle.nvme_notices.proofs.RemovedHosts.{they-hear}
use Rattle.nvme_notices.proofs.laws.removed_hosts_hear.Goals as goal

pub returns : goal.returns
returns c = they-hear
