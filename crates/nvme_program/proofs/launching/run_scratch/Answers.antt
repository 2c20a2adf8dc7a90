use Rattle.std.proofs.Common.{inr}
use Rattle.nvme_program.proofs.launching.run_scratch.Goals as goal

pub returns-in-Ok-clause-ends : goal.returns-in-Ok-clause-ends
returns-in-Ok-clause-ends g c =
    inr (c.in-Ok.medium, c.run_named.result.medium, c.in-Ok.ensures.zeros, c.run_named.ensures.ends)
