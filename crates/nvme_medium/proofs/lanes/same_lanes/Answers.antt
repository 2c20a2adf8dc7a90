use Rattle.std.proofs.Common.{arith, sym, ◌∙◌}
use Rattle.std.specs.Simd.Lanes.{chunk}
use Rattle.std.proofs.lemmas.Simd.{length-chunk}
use Rattle.nvme_medium.proofs.Compared.{no-difference}
use Rattle.nvme_medium.proofs.lanes.same_lanes.Goals as goal

pub returns : goal.returns
returns c =
    let left = length-chunk c.args.at 32 c.args.a.now c.requires.in_a in
    let right = length-chunk c.args.at 32 c.args.b.now c.requires.in_b in
    no-difference (chunk c.args.at 32 c.args.a.now) (chunk c.args.at 32 c.args.b.now) (left ∙ sym right)
    (omega (arith, left))
