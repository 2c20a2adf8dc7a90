use Rattle.std.proofs.Common.{◌≡◌, ◌+◌, ◌≤◌, sym, arith}
use Rattle.nvme_spec.proofs.Worlds.{of_named}
use Rattle.nvme_subsys.proofs.subsystem.Subsystem.read_blocks.Goals as goal

pub block_in-requires : goal.block_in-requires
block_in-requires g c =
    let size = g.M.Medium.size c.self.inside.medium in
    let fits = of_named (λ n. n.first + n.blocks ≤ size) c.self.inside.spaces c.args.nsid
    c.in_ok-namespace.namespace.now c.self.invariant.within (sym c.in_ok-namespace.ensures) in
    omega (arith, fits, c.blocks-size.ensures)

pub read_blocks-requires-clause-within : goal.read_blocks-requires-clause-within
read_blocks-requires-clause-within g c = omega (arith, c.in_ok-first.ensures.within, c.blocks-size.ensures, c.requires)
