use Rattle.std.proofs.Common.{◌+◌, ◌≤◌, arith}
use Rattle.nvme_spec.proofs.Worlds.{of_named}
use Rattle.nvme_subsys.proofs.needing.need_of.Goals as goal

pub overflow_add-first_block : goal.overflow_add-first_block
overflow_add-first_block c =
    let admitted = c.in-Ok.ensures {u = tt} in
    let inside = of_named (λ n. n.first + n.blocks ≤ c.args.size) c.args.spaces.now _ c.in-Ok.field-0.namespace.now
    c.requires.within admitted.named in
    record { fits = omega (arith, inside, c.first_block.ensures, admitted.in_range, c.ranges.size.fits) }
