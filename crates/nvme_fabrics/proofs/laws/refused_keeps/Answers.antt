use Rattle.nvme_fabrics.proofs.Refusals.{refused-keeps}
use Rattle.nvme_fabrics.proofs.laws.refused_keeps.Goals as goal

pub returns : goal.returns
returns c = refused-keeps
