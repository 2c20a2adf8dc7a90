use Rattle.std.proofs.Common.{arith}
use Rattle.std.proofs.lemmas.List.Edits.{map_over_more}
use Rattle.nvme_machine.specs.Controllers.{with_mark}
use Rattle.nvme_ctrl.proofs.marking.mark_all.Goals as goal

pub loop-i-preserved : goal.loop-i-preserved
loop-i-preserved c =
    rw c.marked.ensures
    (map_over_more (with_mark c.args.nsid) c.args.commands.now c.loop-i.commands c.loop-i.i c.index-commands-i.result
    (omega arith) c.loop-i.invariant c.index-commands-i.is)
