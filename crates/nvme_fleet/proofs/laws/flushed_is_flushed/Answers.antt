use Rattle.nvme_fleet.proofs.CallLaws.{flushed_is_one_flush}
use Rattle.nvme_fleet.proofs.laws.flushed_is_flushed.Goals as goal

pub returns : goal.returns
returns c = flushed_is_one_flush
