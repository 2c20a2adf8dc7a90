use Rattle.std.proofs.Common.{◌≡◌, ◌+◌, ◌*◌, ◌/◌, ◌≤◌, length, refl, arith}
use Rattle.nvme_lent.specs.Lent.{lent_bytes, has_whole_blocks}
use Rattle.nvme_lent.proofs.Writing.{blocks-put, behind-put, lent_at_once}
use Rattle.nvme_lent.proofs.lent.LentMediumMedium.write_blocks.Goals as goal

pub returns-clause-written : goal.returns-clause-written
returns-clause-written c told =
    let bytes = c.args.bytes.now in
    blocks-put c.args.self.now (512 * c.args.first) (length bytes) c.deref_mut.result.now c.copy_from_slice.new.self
    bytes c.deref_mut.ensures.value c.copy_from_slice.ensures.after refl c.requires.within

pub returns-clause-calls : goal.returns-clause-calls
returns-clause-calls c =
    let self = c.args.self.now in let at = 512 * c.args.first in let bytes = c.args.bytes.now in
    let all : length bytes ≡ 512 * (length bytes / 512) = omega (arith, c.requires.whole) in
    let fits : at + length bytes ≤ length (lent_bytes self) = omega (arith, has_whole_blocks self, c.requires.within) in
    lent_at_once c.args.first (length bytes / 512) bytes self _ all (omega (arith, c.requires.some))
    (omega (arith, fits, all))
    (blocks-put self at (length bytes) c.deref_mut.result.now c.copy_from_slice.new.self bytes c.deref_mut.ensures.value
    c.copy_from_slice.ensures.after refl c.requires.within)
    (behind-put self at (length bytes) c.deref_mut.result.now c.copy_from_slice.new.self bytes c.deref_mut.ensures.value
    c.copy_from_slice.ensures.after refl c.requires.within) refl refl
