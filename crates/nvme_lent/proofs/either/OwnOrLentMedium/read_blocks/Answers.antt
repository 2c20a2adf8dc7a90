use Rattle.nvme_lent.proofs.Inside.{own-reads, lent-reads, brought-reads}
use Rattle.nvme_lent.proofs.either.OwnOrLentMedium.read_blocks.Goals as goal

pub returns-in-Own-clause-reads : goal.returns-in-Own-clause-reads
returns-in-Own-clause-reads c = rw c.in-Own.is (own-reads _ _ _ _ _ _ _ _ _ c.read_blocks.ensures.reads)

pub returns-in-Lent-clause-reads : goal.returns-in-Lent-clause-reads
returns-in-Lent-clause-reads c = rw c.in-Lent.is (lent-reads _ _ _ _ _ _ _ _ _ c.read_blocks-in-Lent.ensures.reads)

pub returns-in-Brought-clause-reads : goal.returns-in-Brought-clause-reads
returns-in-Brought-clause-reads c =
    rw c.in-Brought.is (brought-reads _ _ _ _ _ _ _ _ _ c.read_blocks-in-Brought.ensures.reads)
