use Rattle.nvme_responses.proofs.EachOnce.{each-once}
use Rattle.nvme_responses.proofs.laws.each_once.Goals as goal

pub returns : goal.returns
returns c = each-once
