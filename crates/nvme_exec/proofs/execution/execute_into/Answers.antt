use Rattle.nvme_spec.specs.declared.verdict.Verdict.TheVariants.{Allowed}
use Rattle.nvme_spec.proofs.Fencing.{by-rest}
use Rattle.nvme_exec.proofs.Judging.{stays}
use Rattle.nvme_exec.proofs.execution.execute_into.Goals as goal

pub returns-in-Ok-clause-ready : goal.returns-in-Ok-clause-ready
returns-in-Ok-clause-ready g c =
    let done = c.in-Ok.ensures.allowed in
    rw c.perform.ensures.size
    (stays _ _ _ (g.M.Medium.size c.args.medium.now) _ _ _ _ done.performed c.requires.ready).ready

pub returns-in-Ok-clause-controllers : goal.returns-in-Ok-clause-controllers
returns-in-Ok-clause-controllers g c =
    let done = c.in-Ok.ensures.allowed in
    (stays _ _ _ (g.M.Medium.size c.args.medium.now) _ _ _ _ done.performed c.requires.ready).controllers

pub returns-in-Ok-clause-frame : goal.returns-in-Ok-clause-frame
returns-in-Ok-clause-frame g c =
    let done = c.in-Ok.ensures.allowed in
    by-rest (Allowed done.plan) g.M.Medium.tells _ _ _ _ _ done.performed
