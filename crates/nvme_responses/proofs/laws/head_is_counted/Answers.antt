use Rattle.nvme_responses.proofs.Heads.{head-is-counted}
use Rattle.nvme_responses.proofs.laws.head_is_counted.Goals as goal

pub returns : goal.returns
returns c = head-is-counted
