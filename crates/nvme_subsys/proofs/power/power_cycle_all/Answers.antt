use Rattle.std.proofs.Common.{arith}
use Rattle.std.proofs.lemmas.List.Edits.{map_over_more}
use Rattle.nvme_machine.specs.Controllers.{power_cycled}
use Rattle.nvme_subsys.proofs.power.power_cycle_all.Goals as goal

pub loop-i-preserved : goal.loop-i-preserved
loop-i-preserved c =
    rw (c.power_cycle.ensures, ← c.index-controllers-i.is)
    (map_over_more power_cycled c.args.controllers.now c.loop-i.controllers c.loop-i.i c.index-controllers-i.result
    (omega arith) c.loop-i.invariant c.index-controllers-i.is)
