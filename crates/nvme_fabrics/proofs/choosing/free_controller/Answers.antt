use Rattle.std.proofs.Common.{◌≤◌, length, arith, sym, ap, ◌∙◌}
use Rattle.std.specs.Prelude.{None}
use Rattle.nvme_fabrics.specs.Places.{index_of}
use Rattle.nvme_fabrics.proofs.BestOf.{one_more, none_left}
use Rattle.nvme_fabrics.proofs.choosing.free_controller.Goals as goal

pub loop-i-preserved : goal.loop-i-preserved
loop-i-preserved c =
    rw (c.better-best.ensures, c.is_free.ensures, c.from-place.ensures)
    (c.loop-i.invariant
    ∙ one_more c.args.host_id c.loop-i.best c.loop-i.i c.args.controllers.now c.args.counts.now
    (record { host = None; association = None }) 0 (omega (arith, c.told-controllers, c.loop-i-test.true))
    (omega (arith, c.told-counts, c.loop-i-test.true)))

pub returns-in-Some : goal.returns-in-Some
returns-in-Some c =
    let end : length c.args.controllers.now ≤ c.loop-i.i = omega (arith, c.told-controllers, c.loop-i-test.false) in
    sym (ap index_of (c.loop-i.invariant
    ∙ none_left c.args.host_id c.loop-i.best c.loop-i.i c.args.controllers.now c.args.counts.now end ∙ c.in-Some.is))

pub returns-in-None : goal.returns-in-None
returns-in-None c =
    let end : length c.args.controllers.now ≤ c.loop-i.i = omega (arith, c.told-controllers, c.loop-i-test.false) in
    rw c.of.ensures (sym (ap index_of (c.loop-i.invariant
    ∙ none_left c.args.host_id c.loop-i.best c.loop-i.i c.args.controllers.now c.args.counts.now end ∙ c.in-None.is)))
