use Rattle.nvme_subsys.proofs.Sound.{marked-more}
use Rattle.nvme_subsys.proofs.marking.mark_all.Goals as goal

pub loop-i-preserved : goal.loop-i-preserved
loop-i-preserved c =
    rw (c.mark_one.ensures, ← c.index-controllers-i.is)
    (marked-more c.args.spaces.now c.args.marks.now c.args.controllers.now c.loop-i.controllers c.loop-i.i
    c.index-controllers-i.result c.loop-i-test.true c.loop-i.invariant c.index-controllers-i.is)
