use Rattle.std.proofs.Common.{◌+◌, ◌*◌, arith}
use Rattle.nvme_wire.specs.Entry.{word_at}
use Rattle.nvme_admin.proofs.Executing.{read-more}
use Rattle.nvme_admin.proofs.attachment.read_controllers.Goals as goal

pub loop-i-preserved : goal.loop-i-preserved
loop-i-preserved c =
    read-more c.loop-i.controllers (λ i. word_at c.args.list.now (2 + 2 * i)) c.loop-i.i c.controller_at.result
    (omega (arith, c.loop-i-test.true, c.loop-i.auto.controllers))
    c.loop-i.invariant c.controller_at.ensures
