use Rattle.nvme_fabrics.proofs.RunLaws.{same-controller, end-is-final}
use Rattle.nvme_fabrics.proofs.laws.same_controller.Goals as goal

pub returns-clause-same : goal.returns-clause-same
returns-clause-same c = same-controller

pub returns-clause-ended : goal.returns-clause-ended
returns-clause-ended c = end-is-final
