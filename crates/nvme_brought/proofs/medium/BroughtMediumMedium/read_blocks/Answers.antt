use Rattle.std.proofs.Common.{◌≡◌, ◌+◌, ◌*◌, ◌/◌, length, ap, sym, ◌∙◌, arith}
use Rattle.nvme_spec.specs.Blocks.{blocks_from}
use Rattle.nvme_medium.proofs.Reading.{these-read-at-once}
use Rattle.nvme_brought.proofs.InRoom.{reads-there}
use Rattle.nvme_brought.proofs.Overlay.{blocks-at-hand}
use Rattle.nvme_brought.specs.Brought.{content_of, brought_step}
use Rattle.nvme_brought.specs.Whole.{content_is_whole}
use Rattle.nvme_brought.proofs.medium.BroughtMediumMedium.read_blocks.Goals as goal

pub returns-clause-reads : goal.returns-clause-reads
returns-clause-reads c =
    let m = c.args.self.now in let place = c.in-Some in let size = length c.args.target.now in
    let all : size ≡ 512 * (size / 512) = omega (arith, c.requires.whole) in
    these-read-at-once brought_step c.args.first m.disk.blocks (content_of m) c.args.target.now
    c.copy_from_slice.new.self m
    (c.copy_from_slice.ensures.after ∙ c.adjacent_bytes.ensures
    ∙ blocks-at-hand m.disk.content.bytes m.room.buffer.items m.room.first m.room.at_hand place.nth size
    (omega (arith, place.ensures.within, all)) m.room.fits (omega (arith, m.within, m.disk.whole))
    ∙ ap (λ i. blocks_from (content_of m) i size) (sym place.ensures.is))
    c.requires.whole c.requires.within (content_is_whole m)
    (λ k below. reads-there m (c.args.first + k) (place.nth + k) (omega (arith, place.ensures.is))
    (omega (arith, below, place.ensures.within)))
