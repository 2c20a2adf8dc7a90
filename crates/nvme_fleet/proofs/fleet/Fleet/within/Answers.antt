use Rattle.nvme_fleet.proofs.Words.{state-is}
use Rattle.nvme_ns.specs.Configured.{configuration}
use Rattle.nvme_fleet.proofs.FleetOpening.{opened-mailboxes, opened-over}
use Rattle.nvme_fleet.proofs.fleet.Fleet.within.Goals as goal

pub invariant_of-result : goal.invariant_of-result
invariant_of-result g c =
    opened-over (configuration c.args.config.now) (g.M.Medium.device c.args.medium) c.in_ok-within-in-Ok.field-0.state
    c.in-Ok.rooms.drivers.items c.in-Ok.rooms.buffer.items (state-is c.in_ok-within-in-Ok.ensures.opened)
    (rw c.deref.ensures.value at c.in-Ok.ensures.drivers) c.in-Ok.ensures.buffer

pub returns-in_ok-within-in-Ok-clause-mailboxes : goal.returns-in_ok-within-in-Ok-clause-mailboxes
returns-in_ok-within-in-Ok-clause-mailboxes g c =
    opened-mailboxes (configuration c.args.config.now) (g.M.Medium.device c.args.medium)
    c.in_ok-within-in-Ok.field-0.state c.in-Ok.rooms.drivers.items c.in-Ok.rooms.buffer.items
    (state-is c.in_ok-within-in-Ok.ensures.opened)
    (rw c.deref.ensures.value at c.in-Ok.ensures.drivers)
