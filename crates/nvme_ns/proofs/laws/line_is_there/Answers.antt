use Rattle.nvme_ns.proofs.Refusals as refusals
use Rattle.nvme_ns.proofs.laws.line_is_there.Goals as goal

pub returns : goal.returns
returns c = refusals.line_is_there
