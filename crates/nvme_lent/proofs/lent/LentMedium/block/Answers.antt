use Rattle.std.proofs.Common.{ap, ◌∙◌}
use Rattle.nvme_spec.specs.Blocks.{block_at}
use Rattle.nvme_lent.proofs.Whole.{block-inside}
use Rattle.nvme_lent.proofs.lent.LentMedium.block.Goals as goal

pub returns-clause-block : goal.returns-clause-block
returns-clause-block c = let self = c.args.self.now in ap (λ xs. block_at xs c.args.i) c.deref.ensures.value
    ∙ block-inside self.bytes.items self.blocks c.args.i c.requires
