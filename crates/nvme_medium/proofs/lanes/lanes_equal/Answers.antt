use Rattle.std.proofs.Common.{rules}
use Rattle.nvme_medium.proofs.Compared.{next-lanes}
use Rattle.nvme_medium.proofs.lanes.lanes_equal.Goals as goal

pub loop-k-preserved : goal.loop-k-preserved
loop-k-preserved c =
    record {
      same = next-lanes c.args.a.now c.args.b.now c.loop-k.k c.loop-k.invariant.same
          (c.same_lanes.ensures.0 (search rules));
    }
