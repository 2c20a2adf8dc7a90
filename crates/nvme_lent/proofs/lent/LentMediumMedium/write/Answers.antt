use Rattle.std.proofs.Common.{◌≡◌, ◌+◌, ◌*◌, ◌≤◌, length, rules, refl, arith}
use Rattle.nvme_lent.proofs.Writing.{blocks-put, behind-put}
use Rattle.nvme_lent.proofs.lent.LentMediumMedium.write.Goals as goal

pub returns-clause-step : goal.returns-clause-step
returns-clause-step c =
    let self = c.args.self.now in let at = 512 * c.args.i in
    let long : length c.args.block.now ≡ 512 = search rules in
    let within : at + 512 ≤ 512 * self.blocks = omega (arith, c.requires) in (
      refl,
      blocks-put self at 512 c.deref_mut.result.now c.copy_from_slice.new.self c.args.block.now
          c.deref_mut.ensures.value c.copy_from_slice.ensures.after long within,
      behind-put self at 512 c.deref_mut.result.now c.copy_from_slice.new.self c.args.block.now
          c.deref_mut.ensures.value c.copy_from_slice.ensures.after long within,
      refl,
      refl,
    )

pub returns-clause-ok : goal.returns-clause-ok
returns-clause-ok c told = (returns-clause-step c).1
