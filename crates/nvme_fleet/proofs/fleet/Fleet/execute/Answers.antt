use Rattle.nvme_fleet.proofs.Words.{
  ◌≡◌,
  ◌-◌,
  refl,
  sym,
  subst,
  seen_with,
  none-calling,
  none-executes,
  FleetState,
  Layers,
  layers_of,
  IsThere,
  controller_in,
  state-is,
}
use Rattle.nvme_machine.specs.Bare as machine
use Rattle.nvme_machine.specs.declared.seen.Seen.TheVariants as given
use Rattle.nvme_machine.specs.declared.event.Event.TheVariants.{Execute}
use Rattle.nvme_fleet.proofs.EventEffects.{executed-there}
use Rattle.nvme_fleet.proofs.LayerCalls.{applies-calling}
use Rattle.nvme_fleet.proofs.fleet.Fleet.execute.Goals as goal

pub returns-in_default-clause-below : goal.returns-in_default-clause-below
returns-in_default-clause-below g c = record {
  given = given.NoController;
  step =
      none-executes g.M.Medium.tells c.args.self.now.state.subsystem c.args.cntlid c.args.i c.in_default.ensures.absent;
  gives = refl;
  drivers = refl;
}

pub returns-in_default-clause-calls : goal.returns-in_default-clause-calls
returns-in_default-clause-calls g c =
    applies-calling g.M.Medium.step g.M.Medium.tells (layers_of c.args.self.now.state) (layers_of c.args.self.now.state)
    (Execute c.args.cntlid c.args.i) given.NoController _ c.args.self.now.medium c.args.self.now.medium refl refl
    (none-calling g.M.Medium.step c.args.self.now.medium g.M.Medium.tells c.args.self.now.state.subsystem c.args.cntlid
    c.args.i c.in_default.ensures.absent)

pub invariant_of-self : goal.invariant_of-self
invariant_of-self g c =
    let there = subst (λ (t : FleetState). IsThere t.subsystem c.args.cntlid)
    (sym (state-is c.self.view_is)) c.in-Some.ensures.some.1 in
    let named = subst (λ (t : FleetState). (controller_in t.subsystem (c.args.cntlid - 1)).cntlid ≡ c.args.cntlid)
    (sym (state-is c.self.view_is)) c.in-Some.ensures.named in
    (executed-there g.M.Medium.tells _ c.execute_into.new.self.state c.args.cntlid c.args.i
    (machine.seen_with c.execute_into.new.marks c.execute_into.result) c.self.invariant there named
    c.execute_into.ensures.executes).sound

pub returns-clause-step : goal.returns-clause-step
returns-clause-step g c =
    let there = subst (λ (t : FleetState). IsThere t.subsystem c.args.cntlid)
    (sym (state-is c.self.view_is)) c.in-Some.ensures.some.1 in
    let named = subst (λ (t : FleetState). (controller_in t.subsystem (c.args.cntlid - 1)).cntlid ≡ c.args.cntlid)
    (sym (state-is c.self.view_is)) c.in-Some.ensures.named in
    rw (← c.self.view_is, (c.told.ensures.seen c.execute_into.new.marks))
    ((executed-there g.M.Medium.tells _ c.execute_into.new.self.state c.args.cntlid c.args.i
    (machine.seen_with c.execute_into.new.marks c.execute_into.result) c.self.invariant there named
    c.execute_into.ensures.executes).step)

pub returns-clause-calls : goal.returns-clause-calls
returns-clause-calls g c =
    let a : FleetState = record {
      subsystem = c.self.inside.subsystem.state;
      drivers = c.self.inside.drivers.items;
      buffer = c.self.inside.buffer.items;
      filled = c.self.inside.filled;
    } in
    let b : Layers = record { subsystem = c.execute_into.new.self.state; drivers = c.self.inside.drivers.items } in
    rw (← c.self.view_is)
    (applies-calling g.M.Medium.step g.M.Medium.tells (layers_of a) b
    (Execute c.args.cntlid c.args.i) (machine.seen_with c.execute_into.new.marks c.execute_into.result) (seen_with
    c.execute_into.new.marks c.told.result) c.self.inside.subsystem.medium c.execute_into.new.self.medium refl
    (c.told.ensures.seen c.execute_into.new.marks) c.execute_into.ensures.calls)
