use Rattle.std.proofs.Common.{rules}
use Rattle.nvme_library.specs.Given.{given_controller}
use Rattle.nvme_library.proofs.Arrays.{next-set}
use Rattle.nvme_library.proofs.configuration.put_controllers.Goals as goal

pub loop-i-preserved : goal.loop-i-preserved
loop-i-preserved c = rw c.of.ensures (next-set given_controller c.args.configs.now c.args.controllers.now
    c.loop-i.controllers c.loop-i.i _ c.loop-i.invariant (search rules) c.requires)
