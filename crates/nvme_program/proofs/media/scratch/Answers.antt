use Rattle.std.proofs.Common.{rules, refl}
use Rattle.nvme_program.proofs.Zeros.{zeros_whole}
use Rattle.nvme_program.proofs.media.scratch.Goals as goal

pub returns-in-Ok-clause-zeros : goal.returns-in-Ok-clause-zeros
returns-in-Ok-clause-zeros c =
    zeros_whole 1024 524288 c.in-Ok.bytes.items _ refl c.of.ensures
    (c.in-Ok.ensures.items_if_clones_equal (λ y e. search rules))
