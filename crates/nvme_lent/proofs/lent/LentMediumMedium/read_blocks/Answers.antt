use Rattle.std.proofs.Common.{refl, ◌∙◌}
use Rattle.nvme_medium.proofs.Reading.{read-at-once}
use Rattle.nvme_lent.specs.Lent.{lent_bytes, lent_step, has_whole_blocks}
use Rattle.nvme_lent.proofs.lent.LentMediumMedium.read_blocks.Goals as goal

pub returns-clause-reads : goal.returns-clause-reads
returns-clause-reads c =
    let self = c.args.self.now in
    read-at-once lent_step c.args.first self.blocks (lent_bytes self) c.args.target.now c.copy_from_slice.new.self self
    (c.copy_from_slice.ensures.after ∙ c.bytes_from.ensures.bytes) c.requires.whole c.requires.within
    (has_whole_blocks self) (λ i. (refl, refl))
