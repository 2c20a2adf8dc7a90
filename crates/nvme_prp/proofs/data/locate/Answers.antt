use Rattle.std.proofs.Common.{◌∙◌, arith}
use Rattle.nvme_spec.specs.Transfers.{ArePages}
use Rattle.nvme_prp.proofs.Placing.{placed, nowhere, no-bytes}
use Rattle.nvme_prp.proofs.data.locate.Goals as goal

pub invariant_of-pieces : goal.invariant_of-pieces
unfolding ArePages
invariant_of-pieces c = record { pages = rw c.clear.ensures tt }

pub returns-then-bytes-eq0-clause-placed : goal.returns-then-bytes-eq0-clause-placed
returns-then-bytes-eq0-clause-placed c =
    nowhere c.args.window.now c.args.sqe.now c.args.bytes c.before.clear.new.self.items
    (omega (arith, c.before.if-bytes-eq0.true)) c.before.clear.ensures

pub returns-then-bytes-eq0-clause-size : goal.returns-then-bytes-eq0-clause-size
returns-then-bytes-eq0-clause-size c =
    no-bytes c.before.clear.new.self.items c.before.clear.ensures ∙ omega (arith, c.before.if-bytes-eq0.true)

pub returns-in-Ok-clause-placed : goal.returns-in-Ok-clause-placed
returns-in-Ok-clause-placed c =
    placed c.args.window.now c.args.sqe.now c.prp1.result c.prp2.result c.args.bytes c.walk_into.new.pieces.parts.items
    c.prp1.ensures c.prp2.ensures c.in-Ok.ensures.pieces
