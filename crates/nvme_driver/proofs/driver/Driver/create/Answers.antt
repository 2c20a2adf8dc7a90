use Rattle.std.proofs.Common.{ap}
use Rattle.nvme_driver.specs.Drivers.{Driver}
use Rattle.nvme_driver.proofs.Risen.{creates-none, creates-some}
use Rattle.nvme_driver.proofs.driver.Driver.create.Goals as goal

pub returns-in_default-clause-creates : goal.returns-in_default-clause-creates
returns-in_default-clause-creates g c =
    creates-none g.P.Port.step c.args.command c.args.self.now c.send.new.self _ _ _ _
    c.send.ensures.driver
    c.send.ensures.calls (ap (λ (d : Driver). d.admin) c.self.view_is) c.in_default.ensures.awaits

pub returns-clause-creates : goal.returns-clause-creates
returns-clause-creates g c =
    creates-some g.P.Port.step c.args.command c.args.self.now c.send.new.self _ _ _ _ _ _ _ _
    c.send.ensures.driver
    c.send.ensures.calls (ap (λ (d : Driver). d.admin) c.self.view_is) c.in-Some.ensures.awaits
    c.hear_own.ensures.driver c.hear_own.ensures.calls
    c.status.ensures
