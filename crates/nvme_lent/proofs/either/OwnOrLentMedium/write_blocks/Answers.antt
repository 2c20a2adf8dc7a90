use Rattle.nvme_lent.proofs.Inside.{own-writes, lent-writes, brought-writes}
use Rattle.nvme_lent.proofs.either.OwnOrLentMedium.write_blocks.Goals as goal

pub returns-in-Own-clause-calls : goal.returns-in-Own-clause-calls
returns-in-Own-clause-calls c = rw c.in-Own.is (own-writes _ _ _ _ _ c.write_blocks.ensures.calls)

pub returns-in-Lent-clause-calls : goal.returns-in-Lent-clause-calls
returns-in-Lent-clause-calls c = rw c.in-Lent.is (lent-writes _ _ _ _ _ c.write_blocks-in-Lent.ensures.calls)

pub returns-in-Brought-clause-calls : goal.returns-in-Brought-clause-calls
returns-in-Brought-clause-calls c =
    rw c.in-Brought.is (brought-writes _ _ _ _ _ c.write_blocks-in-Brought.ensures.calls)
