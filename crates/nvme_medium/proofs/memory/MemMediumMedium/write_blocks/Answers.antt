use Rattle.std.proofs.Common.{◌≡◌, ◌+◌, ◌*◌, ◌/◌, ◌≤◌, length, refl, arith}
use Rattle.nvme_medium.specs.Memory.{memory_bytes, memory_step}
use Rattle.nvme_medium.proofs.MemoryWrites.{memory-takes, items-written}
use Rattle.nvme_medium.proofs.Writing.{written-at-once}
use Rattle.nvme_medium.proofs.memory.MemMediumMedium.write_blocks.Goals as goal

pub returns-clause-calls : goal.returns-clause-calls
returns-clause-calls c =
    let whole = c.args.self.now.whole in
    let all : length c.args.bytes.now ≡ 512 * (length c.args.bytes.now / 512) = omega (arith, c.requires.whole) in
    let fits : 512 * c.args.first + length c.args.bytes.now ≤ length (memory_bytes c.args.self.now) =
    omega (arith, whole, c.requires.within) in
    written-at-once memory_step memory_bytes (λ m. m.blocks) memory-takes c.args.first (length c.args.bytes.now / 512)
    c.args.bytes.now c.args.self.now _ all (omega (arith, c.requires.some)) (omega (arith, fits, all))
    (items-written c.args.self.now (512 * c.args.first) (length c.args.bytes.now) c.deref_mut.result.now
    c.copy_from_slice.new.self c.args.bytes.now c.deref_mut.ensures.value c.copy_from_slice.ensures.after refl fits)
    refl
