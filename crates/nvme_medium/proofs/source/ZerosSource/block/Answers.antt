use Rattle.std.proofs.Common.{ℕ, ◌*◌, replicate, ap, ◌∙◌, arith}
use Rattle.std.proofs.lemmas.List.{length-replicate}
use Rattle.nvme_medium.proofs.Runs.{block_at-zeros}
use Rattle.nvme_medium.proofs.source.ZerosSource.block.Goals as goal

pub returns : goal.returns
returns c = c.fill.ensures.after (λ y e. e)
    ∙ (ap (λ n. replicate n 0) c.told-buffer ∙ block_at-zeros (512 * c.args.self.now.blocks) c.args.arg2
    (omega (arith, length-replicate {A = ℕ} (512 * c.args.self.now.blocks) 0)))
