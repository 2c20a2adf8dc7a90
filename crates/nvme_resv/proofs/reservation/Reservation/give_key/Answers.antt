use Rattle.nvme_spec.proofs.Registrants.{rising-with_key}
use Rattle.nvme_resv.proofs.reservation.Reservation.give_key.Goals as goal

pub invariant_of-self : goal.invariant_of-self
invariant_of-self c =
    rw c.set_key.ensures (rising-with_key c.self.inside.registrants.items c.args.host c.args.key c.self.invariant)
