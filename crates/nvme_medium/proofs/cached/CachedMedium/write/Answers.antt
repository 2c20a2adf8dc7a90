use Rattle.std.proofs.Common.{◌+◌, ◌*◌, ◌≤◌, length, ◌∙◌, ap, sym, arith}
use Rattle.nvme_spec.specs.Blocks.{block_at}
use Rattle.nvme_spec.proofs.Splices.{block_at-overwritten_same}
use Rattle.nvme_medium.proofs.Kept.{Keeps-changed, KeepsBut-written}
use Rattle.nvme_medium.proofs.cached.CachedMedium.write.Goals as goal

pub invariant_of-self : goal.invariant_of-self
invariant_of-self g c = record {
  coherent = λ tells.
      let old = (g.M.Medium.device c.args.self.now.inner).content in
      let fits : 512 * c.args.i + 512 ≤ length old = omega (arith, g.met.M.Medium.whole c.args.self.now.inner tells) in
      let is = c.in-Ok.ensures.ok tells in
      let block = sym
      (ap (λ x. block_at x c.args.i) is ∙ block_at-overwritten_same old c.args.i c.args.block.now c.told-block fits) in
      Keeps-changed c.args.i c.args.self.now.kept.entries c.keep.new.kept.entries _
      (KeepsBut-written c.args.self.now.kept.entries old _ c.args.i c.args.block.now
      (c.args.self.now.coherent tells) is c.told-block fits)
      (λ b found. c.keep.ensures.this b found ∙ block) c.keep.ensures.others;
  fits = c.keep.ensures.fits c.args.self.now.fits;
}

pub invariant_of-self-in-Err : goal.invariant_of-self-in-Err
invariant_of-self-in-Err g c = record {
  coherent = λ tells.
      let old = (g.M.Medium.device c.args.self.now.inner).content in
      let fits : 512 * c.args.i + 512 ≤ length old = omega (arith, g.met.M.Medium.whole c.args.self.now.inner tells) in
      let torn = c.in-Err.ensures.err tells in
      Keeps-changed c.args.i c.args.self.now.kept.entries c.forget.new.kept.entries _
      (KeepsBut-written c.args.self.now.kept.entries old _ c.args.i torn.left
      (c.args.self.now.coherent tells) torn.is torn.whole fits)
      (λ b found. let none = c.forget.ensures.gone in cc) (λ j b ne found. sym (c.forget.ensures.others j ne) ∙ found);
  fits = c.forget.ensures.fits c.args.self.now.fits;
}
