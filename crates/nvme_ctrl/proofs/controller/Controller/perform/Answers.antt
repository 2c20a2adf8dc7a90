use Rattle.nvme_spec.proofs.StatusLaws.{execution_fits}
use Rattle.nvme_exec.specs.Carrying.{outcome_of}
use Rattle.nvme_ctrl.proofs.Executions.{
  admin-answers,
  admin-fits,
  admin-lies,
  admin-ready,
  admin-controllers,
  io-answers,
  admin-calls,
  io-calls,
}
use Rattle.nvme_ctrl.proofs.controller.Controller.perform.Goals as goal

pub returns-then-command-eq0-clause-answers : goal.returns-then-command-eq0-clause-answers
returns-then-command-eq0-clause-answers g c =
    admin-answers g.M.Medium.tells _ _ c.args.command.now _
    (record {
      status = c.perform_admin.result.status;
      dw0 = c.perform_admin.result.dw0;
      rule = c.perform_admin.result.rule;
      marks = c.args.marks.now;
    })
    c.perform_admin.result.change _ _ c.if-command-eq0.true c.perform_admin.ensures.executed c.requires.unmarked

pub returns-then-command-eq0-clause-fits : goal.returns-then-command-eq0-clause-fits
returns-then-command-eq0-clause-fits g c = admin-fits _ _ _ _ _ _ c.perform_admin.ensures.executed

pub returns-then-command-eq0-clause-placed : goal.returns-then-command-eq0-clause-placed
returns-then-command-eq0-clause-placed g c = admin-lies _ _ _ _ _ _ c.perform_admin.ensures.executed

pub returns-then-command-eq0-clause-ready : goal.returns-then-command-eq0-clause-ready
returns-then-command-eq0-clause-ready g c =
    rw c.perform_admin.ensures.rest
    (admin-ready _ (g.M.Medium.size c.args.medium.now) _ _ _ _ _ c.perform_admin.ensures.executed c.requires.ready)

pub returns-then-command-eq0-clause-controllers : goal.returns-then-command-eq0-clause-controllers
returns-then-command-eq0-clause-controllers g c = admin-controllers _ _ _ _ _ _ c.perform_admin.ensures.executed

pub returns-clause-answers : goal.returns-clause-answers
returns-clause-answers g c = rw (← c.self.view_is) (io-answers g.M.Medium.tells _ _ c.args.command.now _
    (outcome_of c.execute_into-completed.result c.execute_into-completed.new.marks) _ c.if-command-eq0.false
    c.execute_into-completed.ensures.executed)

pub returns-clause-fits : goal.returns-clause-fits
returns-clause-fits g c =
    let fits =
    execution_fits g.M.Medium.tells _ _ c.args.command.now.marked _ _ _ c.execute_into-completed.ensures.executed in
    fits.0

pub returns-then-command-eq0-clause-calls : goal.returns-then-command-eq0-clause-calls
returns-then-command-eq0-clause-calls g c = admin-calls g.M.Medium.step _ _ c.args.command.now _ _ c.if-command-eq0.true

pub returns-clause-calls : goal.returns-clause-calls
returns-clause-calls g c = rw (← c.self.view_is) (io-calls g.M.Medium.step _ _ _ c.args.command.now _
    (outcome_of c.execute_into-completed.result c.execute_into-completed.new.marks) _ c.if-command-eq0.false
    c.execute_into-completed.ensures.calls)
