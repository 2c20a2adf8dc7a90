use Rattle.nvme_fleet.proofs.Words.{
  ◌≡◌,
  None,
  length,
  sym,
  ap,
  subst,
  arith,
  controller_at,
  FleetState,
  layers_of,
  CallsAt,
  driver_at,
  state-is,
}
use Rattle.nvme_event.specs.Bare.{seen_of}
use Rattle.nvme_event.specs.declared.seen.FleetSeen.TheVariants as seen
use Rattle.nvme_fleet.proofs.EventEffects.{delivered-at, driver-none, found-at, missed-call}
use Rattle.nvme_fleet.proofs.fleet.Fleet.call_driver.Goals as goal

pub returns-in_default-clause-below : goal.returns-in_default-clause-below
returns-in_default-clause-below g c =
    let absent = subst (λ (t : FleetState). controller_at t.subsystem c.args.cntlid ≡ None)
    (sym (state-is c.self.view_is)) c.in_default.ensures.absent in
    subst (λ (t : FleetState). CallsAt (driver_at t.drivers c.args.cntlid) g.M.Medium.tells
    (layers_of t) c.args.cntlid c.args.call seen.NoController (layers_of t)) (state-is c.self.view_is)
    (missed-call g.M.Medium.tells _ c.args.cntlid c.args.call (driver-none _ c.args.cntlid c.self.invariant absent))

pub call_driver-requires-clause-sound : goal.call_driver-requires-clause-sound
call_driver-requires-clause-sound g c =
    let at = found-at _ c.args.self.now.state c.args.cntlid c.in-Some.index c.index_mut.result.now
    (state-is c.self.view_is) c.self.invariant c.in-Some.ensures.some c.index_mut.ensures.value in
    at.seat.sound

pub invariant_of-self : goal.invariant_of-self
invariant_of-self g c =
    (delivered-at g.M.Medium.tells _ c.args.self.now.state c.call_driver.new.subsystem.state c.call_driver.new.buffer
    c.self.inside.buffer.len c.args.cntlid c.in-Some.index c.index_mut.result.now c.call_driver.new.driver c.args.call
    (seen_of c.call_driver.result)
    (state-is c.self.view_is) c.self.invariant c.in-Some.ensures.some c.index_mut.ensures.value
    c.call_driver.ensures.called c.call_driver.ensures.world c.call_driver.ensures.device c.call_driver.ensures.others
    (omega (arith, c.call_driver.auto.buffer, ap length c.deref_mut.ensures.value))
    (omega (arith, c.deref_mut.ensures.len, c.call_driver.auto.buffer)) c.call_driver.ensures.below).sound

pub returns-clause-step : goal.returns-clause-step
returns-clause-step g c =
    (delivered-at g.M.Medium.tells _ c.args.self.now.state c.call_driver.new.subsystem.state c.call_driver.new.buffer
    c.self.inside.buffer.len c.args.cntlid c.in-Some.index c.index_mut.result.now c.call_driver.new.driver c.args.call
    (seen_of c.call_driver.result)
    (state-is c.self.view_is) c.self.invariant c.in-Some.ensures.some c.index_mut.ensures.value
    c.call_driver.ensures.called c.call_driver.ensures.world c.call_driver.ensures.device c.call_driver.ensures.others
    (omega (arith, c.call_driver.auto.buffer, ap length c.deref_mut.ensures.value))
    (omega (arith, c.deref_mut.ensures.len, c.call_driver.auto.buffer)) c.call_driver.ensures.below).step

pub returns-clause-below : goal.returns-clause-below
returns-clause-below g c =
    (delivered-at g.M.Medium.tells _ c.args.self.now.state c.call_driver.new.subsystem.state c.call_driver.new.buffer
    c.self.inside.buffer.len c.args.cntlid c.in-Some.index c.index_mut.result.now c.call_driver.new.driver c.args.call
    (seen_of c.call_driver.result)
    (state-is c.self.view_is) c.self.invariant c.in-Some.ensures.some c.index_mut.ensures.value
    c.call_driver.ensures.called c.call_driver.ensures.world c.call_driver.ensures.device c.call_driver.ensures.others
    (omega (arith, c.call_driver.auto.buffer, ap length c.deref_mut.ensures.value))
    (omega (arith, c.deref_mut.ensures.len, c.call_driver.auto.buffer)) c.call_driver.ensures.below).below
