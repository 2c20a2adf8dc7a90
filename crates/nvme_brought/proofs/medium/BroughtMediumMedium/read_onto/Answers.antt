use Rattle.std.proofs.Common.{ap, sym, ◌∙◌, arith}
use Rattle.nvme_spec.specs.Blocks.{block_at}
use Rattle.nvme_brought.proofs.Overlay.{block-at-hand}
use Rattle.nvme_brought.specs.Brought.{content_of}
use Rattle.nvme_brought.proofs.medium.BroughtMediumMedium.read_onto.Goals as goal

pub returns-clause-ok : goal.returns-clause-ok
returns-clause-ok c told =
    let m = c.args.self.now in
    c.copy_from_slice.ensures.after ∙ c.block.ensures.block
    ∙ block-at-hand m.disk.content.bytes m.room.buffer.items m.room.first m.room.at_hand c.in-Some.nth
    c.in-Some.ensures.below m.room.fits (omega (arith, m.within, m.disk.whole))
    ∙ ap (λ i. block_at (content_of m) i) (sym c.in-Some.ensures.is)
