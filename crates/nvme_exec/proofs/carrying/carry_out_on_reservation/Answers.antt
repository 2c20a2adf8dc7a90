use Rattle.std.proofs.Common.{ap, ◌∙◌}
use Rattle.nvme_spec.specs.Execution.{marks_for}
use Rattle.nvme_exec.proofs.Performing.{unrefused-by, removed-is}
use Rattle.nvme_exec.proofs.carrying.carry_out_on_reservation.Goals as goal

pub returns-in-Ok-clause-done : goal.returns-in-Ok-clause-done
returns-in-Ok-clause-done c =
    let removes = c.in-Ok.ensures.acts in (
      unrefused-by _ _ removes,
      c.marks_of.ensures ∙ ap (marks_for _ _) (removed-is _ _ removes),
    )
