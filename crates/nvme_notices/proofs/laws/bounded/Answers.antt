use Rattle.nvme_notices.proofs.RunLaws.{all-bounded}
use Rattle.nvme_notices.proofs.laws.bounded.Goals as goal

pub returns : goal.returns
returns c = all-bounded
