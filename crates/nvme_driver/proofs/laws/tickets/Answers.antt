use Rattle.nvme_driver.proofs.Once.{hands_up_outstanding, hands_up_once}
use Rattle.nvme_driver.proofs.laws.tickets.Goals as goal

pub returns-clause-outstanding : goal.returns-clause-outstanding
returns-clause-outstanding c = hands_up_outstanding

pub returns-clause-once : goal.returns-clause-once
returns-clause-once c = hands_up_once
