use Rattle.nvme_fleet.proofs.Words.{ap, ◌∙◌, Controller, FleetState}
use Rattle.nvme_fleet.proofs.EventEffects.{controller-is-in, host-none, is-there}
use Rattle.nvme_fleet.proofs.fleet.Fleet.index_of.Goals as goal

pub returns-in_default-clause-none : goal.returns-in_default-clause-none
returns-in_default-clause-none g c =
    let a : FleetState = record {
      subsystem = c.self.inside.subsystem.state;
      drivers = c.self.inside.drivers.items;
      buffer = c.self.inside.buffer.items;
      filled = c.self.inside.filled;
    } in
    rw (← c.self.view_is) (host-none a c.args.cntlid c.in_default.ensures.none)

pub overflow_sub-cntlid : goal.overflow_sub-cntlid
overflow_sub-cntlid g c =
    (is-there c.self.inside.subsystem.state c.args.cntlid c.in-Some._controller.now c.in-Some.ensures.some).0

pub returns-clause-some : goal.returns-clause-some
returns-clause-some g c = rw (← c.self.view_is) (
  c.from.ensures,
  is-there c.self.inside.subsystem.state c.args.cntlid c.in-Some._controller.now c.in-Some.ensures.some,
)

pub returns-clause-named : goal.returns-clause-named
returns-clause-named g c =
    rw (← c.self.view_is) (ap (λ (x : Controller). x.cntlid) (controller-is-in c.self.inside.subsystem.state
    c.args.cntlid c.in-Some._controller.now c.in-Some.ensures.some) ∙ c.in-Some.ensures.named)
