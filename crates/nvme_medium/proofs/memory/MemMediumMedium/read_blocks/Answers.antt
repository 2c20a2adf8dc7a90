use Rattle.std.proofs.Common.{length, refl, ap, ◌∙◌}
use Rattle.nvme_spec.specs.Blocks.{blocks_from}
use Rattle.nvme_medium.specs.Memory.{memory_bytes, memory_step}
use Rattle.nvme_medium.proofs.Reading.{read-at-once}
use Rattle.nvme_medium.proofs.memory.MemMediumMedium.read_blocks.Goals as goal

pub returns-clause-reads : goal.returns-clause-reads
returns-clause-reads c =
    read-at-once memory_step c.args.first c.args.self.now.blocks
    (memory_bytes c.args.self.now) c.args.target.now c.copy_from_slice.new.self c.args.self.now
    (c.copy_from_slice.ensures.after ∙ ap (λ xs. blocks_from xs c.args.first (length c.args.target.now))
    c.deref.ensures.value) c.requires.whole c.requires.within c.args.self.now.whole (λ i. (refl, refl))
