use Rattle.nvme_driver.proofs.Once.{polls_are_events}
use Rattle.nvme_driver.proofs.laws.polls.Goals as goal

pub returns : goal.returns
returns g c = polls_are_events g.P.Port.step
