use Rattle.std.proofs.Common.{None, refl}
use Rattle.nvme_driver.proofs.Unaborted.{stays_unaborted}
use Rattle.nvme_driver.proofs.driver.Driver.hand_up.Goals as goal

pub invariant_of-self-2 : goal.invariant_of-self-2
invariant_of-self-2 g c none_ =
    stays_unaborted c.self.inside.slots c.from-slot.result None refl (c.self.invariant none_)
