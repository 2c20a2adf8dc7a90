use Rattle.nvme_live.proofs.Lines.{lines_are_known}
use Rattle.nvme_live.proofs.laws.lines_are_known.Goals as goal

pub returns : goal.returns
returns c = lines_are_known
