use Rattle.nvme_target.proofs.Wire.{target_itself_touches_nothing}
use Rattle.nvme_target.proofs.laws.target_itself_touches_nothing.Goals as goal

pub returns : goal.returns
returns c = target_itself_touches_nothing
