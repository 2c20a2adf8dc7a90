use Rattle.nvme_spec.specs.Transfers.{ArePages}
use Rattle.nvme_prp.proofs.walking.Pieces.none.Goals as goal

pub invariant_of-result : goal.invariant_of-result
unfolding ArePages
invariant_of-result c = record { pages = rw c.new.ensures tt }
