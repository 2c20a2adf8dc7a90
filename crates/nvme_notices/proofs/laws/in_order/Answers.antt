use Rattle.nvme_notices.proofs.RunLaws.{all-in-order}
use Rattle.nvme_notices.proofs.laws.in_order.Goals as goal

pub returns : goal.returns
returns c = all-in-order
