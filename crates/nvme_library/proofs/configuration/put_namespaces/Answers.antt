use Rattle.std.proofs.Common.{rules}
use Rattle.nvme_library.specs.Given.{given_namespace}
use Rattle.nvme_library.proofs.Arrays.{next-set}
use Rattle.nvme_library.proofs.configuration.put_namespaces.Goals as goal

pub loop-i-preserved : goal.loop-i-preserved
loop-i-preserved c = next-set given_namespace c.args.configs.now c.args.namespaces.now c.loop-i.namespaces c.loop-i.i _
    c.loop-i.invariant (search rules) c.requires
