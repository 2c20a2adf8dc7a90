-- The content of a medium of brought blocks has all its blocks.
use Rattle.std.specs.Prelude.{◌≡◌, ◌*◌, length}
use Rattle.std.proofs.Common.{arith, ◌∙◌}
use Rattle.std.proofs.lemmas.List.{length-take-le}
use Rattle.nvme_spec.proofs.Splices.{length-with_bytes}
use Rattle.nvme_brought.specs.Brought.{content_of, bytes_at_hand}
use Rattle.nvme_brought.specs.declared.medium.BroughtMedium.{BroughtMedium}

pub content_is_whole : (m : BroughtMedium) → length (content_of m) ≡ 512 * m.disk.blocks
content_is_whole m =
    let long : length (bytes_at_hand m.room) ≡ 512 * m.room.at_hand =
    length-take-le (512 * m.room.at_hand) m.room.buffer.items m.room.fits in
    length-with_bytes m.disk.content.bytes (512 * m.room.first) (bytes_at_hand m.room)
    (omega (arith, long, m.within, m.disk.whole)) ∙ m.disk.whole
