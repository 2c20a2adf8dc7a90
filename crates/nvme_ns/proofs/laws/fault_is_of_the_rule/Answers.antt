use Rattle.nvme_ns.proofs.Refusals as refusals
use Rattle.nvme_ns.proofs.laws.fault_is_of_the_rule.Goals as goal

pub returns : goal.returns
returns c = refusals.fault_is_of_the_rule
