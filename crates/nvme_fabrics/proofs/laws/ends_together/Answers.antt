use Rattle.nvme_fabrics.proofs.Tables.{ended-gone}
use Rattle.nvme_fabrics.proofs.RunLaws.{hosts-stay}
use Rattle.nvme_fabrics.proofs.laws.ends_together.Goals as goal

pub returns-clause-queues : goal.returns-clause-queues
returns-clause-queues c = λ w i q. ended-gone w.fabrics i q

pub returns-clause-hosts : goal.returns-clause-hosts
returns-clause-hosts c = hosts-stay
