use Rattle.nvme_host.proofs.LawsAtWork.{delivers_none_again}
use Rattle.nvme_host.proofs.laws.tickets_come_once.Goals as goal

pub returns : goal.returns
returns c = delivers_none_again
