use Rattle.std.proofs.Common.{ap}
use Rattle.nvme_driver.specs.Drivers.{Driver}
use Rattle.nvme_driver.proofs.Looking.{second-look}
use Rattle.nvme_driver.proofs.driver.Driver.found.Goals as goal

pub returns-clause-calls : goal.returns-clause-calls
returns-clause-calls g c =
    second-look g.P.Port.step c.args.self.now _ _ _ _ _ _ _ _ (ap (λ (d : Driver). d.admin) c.self.view_is)
    (ap (λ (d : Driver). d.io) c.self.view_is) c.in_default.is c.in_ok-entry.was c.next_if_new.ensures.step
    c.next_if_new-2.ensures.step
