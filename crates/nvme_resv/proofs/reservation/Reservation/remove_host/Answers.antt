use Rattle.nvme_spec.proofs.Registrants.{rising-filter}
use Rattle.nvme_resv.proofs.reservation.Reservation.remove_host.Goals as goal

pub invariant_of-self : goal.invariant_of-self
invariant_of-self c = rw c.remove_host.ensures (rising-filter _ c.self.inside.registrants.items c.self.invariant)
