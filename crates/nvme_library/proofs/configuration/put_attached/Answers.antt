use Rattle.std.proofs.Common.{rules}
use Rattle.nvme_library.specs.Given.{given_pair}
use Rattle.nvme_library.proofs.Arrays.{next-set}
use Rattle.nvme_library.proofs.configuration.put_attached.Goals as goal

pub loop-i-preserved : goal.loop-i-preserved
loop-i-preserved c = next-set given_pair c.args.pairs.now c.args.attached.now c.loop-i.attached c.loop-i.i _
    c.loop-i.invariant (search rules) c.requires
