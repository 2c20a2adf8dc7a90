use Rattle.std.proofs.Common.{refl, ◌∙◌, true, length-set}
use Rattle.nvme_ns.proofs.Telling.{pair_at, tells_none, tells_more}
use Rattle.nvme_ns.proofs.pairs.pair_table.Goals as goal

pub loop-pair-init : goal.loop-pair-init
loop-pair-init c = record { long = refl; tells = tells_none }

pub pair_number-requires : goal.pair_number-requires
pair_number-requires c =
    pair_at c.args.attachments.now c.loop-pair.pair-index (0, 0) c.requires c.loop-pair-test.true

pub loop-pair-preserved : goal.loop-pair-preserved
loop-pair-preserved c =
    record {
      long = length-set c.loop-pair.table c.pair_number.result true ∙ c.loop-pair.invariant.long;
      tells = tells_more c.loop-pair.table c.args.attachments.now c.loop-pair.pair-index c.pair_number.result (0, 0)
          c.loop-pair.invariant.long c.loop-pair-test.true
          (pair_at c.args.attachments.now c.loop-pair.pair-index (0, 0) c.requires c.loop-pair-test.true)
          c.pair_number.ensures.number c.loop-pair.invariant.tells;
    }
