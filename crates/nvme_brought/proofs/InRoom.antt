-- Calls on blocks that have a place in the room.
use Rattle.std.proofs.Common.{◌≡◌, ℕ, ◌+◌, ◌<◌, Ok, Some, refl, sym, ap, subst, ◌∙◌, arith}
use Rattle.std.proofs.lemmas.Grind.{common_steps}
use Rattle.nvme_spec.specs.Blocks.{block_at}
use Rattle.nvme_spec.specs.MediumCalls.{Reads}
use Rattle.nvme_brought.specs.Brought.{brought_step, content_of, ReadsFrom}
use Rattle.nvme_brought.specs.Places.{place_in}
use Rattle.nvme_brought.specs.declared.medium.BroughtMedium.{BroughtMedium}
use Rattle.nvme_brought.proofs.Overlay.{block-at-hand}

pub place-there : (first count i nth : ℕ) → i ≡ first + nth → nth < count → place_in first count i ≡ Some nth
place-there first count i nth is below = grind (arith, common_steps)

-- a block at hand is read, and is that of the content
pub reads-there : (m : BroughtMedium) (i nth : ℕ) → i ≡ m.room.first + nth → nth < m.room.at_hand
    → brought_step m (Reads i (Ok (block_at (content_of m) i))) m
reads-there m i nth is below =
    let same = block-at-hand m.disk.content.bytes m.room.buffer.items m.room.first m.room.at_hand nth below m.room.fits
    (omega (arith, m.within, m.disk.whole)) in
    subst (λ place. ReadsFrom place m (Ok (block_at (content_of m) i)) m)
    (sym (place-there m.room.first m.room.at_hand i nth is below))
    (ap Ok (ap (block_at (content_of m)) is ∙ sym same), refl)
