use Rattle.nvme_transfers.proofs.Completing.{right-parts-complete}
use Rattle.nvme_transfers.proofs.laws.right_parts_complete.Goals as goal

pub returns : goal.returns
returns c = right-parts-complete
