use Rattle.std.proofs.Common.{sym, Some}
use Rattle.nvme_spec.proofs.Registrants.{rising-filter, removed_hosts-filter}
use Rattle.nvme_resv.specs.Leaving.{leaves_test}
use Rattle.nvme_resv.proofs.reservation.Reservation.take_over.Goals as goal

pub invariant_of-self : goal.invariant_of-self
invariant_of-self c = rw c.expel-removed.ensures.stay (rising-filter _ c.self.inside.registrants.items c.self.invariant)

pub returns-clause-removed : goal.returns-clause-removed
returns-clause-removed c =
    rw (← c.self.view_is, c.expel-removed.ensures.stay, c.expel-removed.ensures.removed)
    (sym
    (removed_hosts-filter (leaves_test c.args.key (Some c.args.host)) c.self.inside.registrants.items c.self.invariant))
