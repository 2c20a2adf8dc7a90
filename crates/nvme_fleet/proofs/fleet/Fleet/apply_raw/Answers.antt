use Rattle.nvme_fleet.proofs.Words.{
  ◌≡◌,
  None,
  sym,
  subst,
  ◌∙◌,
  no_marks,
  controller_at,
  FleetState,
  layers_of,
  AppliesRaw,
  driver_at,
  medium-is,
  state-is,
}
use Rattle.nvme_machine.specs.Bare as machine
use Rattle.nvme_event.specs.Bare.{seen_of}
use Rattle.nvme_event.specs.declared.seen.FleetSeen.TheVariants as seen
use Rattle.nvme_fleet.proofs.EventEffects.{
  applied-below,
  applied-raw,
  driver-none,
  found-at,
  missed-below,
  refused-below,
  refused-raw,
}
use Rattle.nvme_fleet.proofs.LayerCalls.{hosts-execute-nothing}
use Rattle.nvme_fleet.proofs.fleet.Fleet.apply_raw.Goals as goal

pub returns-in_default-clause-below : goal.returns-in_default-clause-below
returns-in_default-clause-below g c =
    let absent = subst (λ (t : FleetState). controller_at t.subsystem c.args.cntlid ≡ None)
    (sym (state-is c.self.view_is)) c.in_default.ensures.absent in
    subst (λ (t : FleetState). AppliesRaw (driver_at t.drivers c.args.cntlid) g.M.Medium.tells
    (layers_of t) c.args.event seen.NoController (layers_of t)) (state-is c.self.view_is)
    (missed-below g.M.Medium.tells _ c.args.cntlid c.args.event (driver-none _ c.args.cntlid c.self.invariant absent))

pub returns-then-is_some-clause-step : goal.returns-then-is_some-clause-step
returns-then-is_some-clause-step g c =
    let at = found-at _ c.args.self.now.state c.args.cntlid c.in-Some.index c.index.result.now
    (state-is c.self.view_is) c.self.invariant c.in-Some.ensures.some c.index.ensures in
    rw (← c.self.view_is) (refused-raw _ c.args.cntlid c.index.result.now c.args.event at
    (sym c.is_some.ensures ∙ c.if-is_some.true) c.requires.own c.requires.host)

pub returns-then-is_some-clause-below : goal.returns-then-is_some-clause-below
returns-then-is_some-clause-below g c =
    let at = found-at _ c.args.self.now.state c.args.cntlid c.in-Some.index c.index.result.now
    (state-is c.self.view_is) c.self.invariant c.in-Some.ensures.some c.index.ensures in
    subst (λ (t : FleetState). AppliesRaw (driver_at t.drivers c.args.cntlid) g.M.Medium.tells
    (layers_of t) c.args.event seen.NotRaw (layers_of t)) (state-is c.self.view_is)
    (refused-below g.M.Medium.tells _ c.args.cntlid c.index.result.now c.args.event at.driver
    (sym c.is_some.ensures ∙ c.if-is_some.true))

pub invariant_of-self : goal.invariant_of-self
invariant_of-self g c =
    let at = found-at _ c.args.self.now.state c.args.cntlid c.in-Some.index c.index.result.now
    (state-is c.self.view_is) c.self.invariant c.in-Some.ensures.some c.index.ensures in
    (applied-raw g.M.Medium.tells _ c.react.new.self.state c.args.cntlid c.index.result.now c.args.event
    (machine.seen_of c.react.result) c.self.invariant at
    (sym c.is_some.ensures ∙ c.if-is_some.false) c.requires.own c.requires.host c.react.ensures.step).sound

pub returns-clause-step : goal.returns-clause-step
returns-clause-step g c =
    let at = found-at _ c.args.self.now.state c.args.cntlid c.in-Some.index c.index.result.now
    (state-is c.self.view_is) c.self.invariant c.in-Some.ensures.some c.index.ensures in
    rw (← c.self.view_is, (c.told.ensures.seen no_marks)) ((applied-raw g.M.Medium.tells _ c.react.new.self.state
    c.args.cntlid c.index.result.now c.args.event (machine.seen_of c.react.result) c.self.invariant at
    (sym c.is_some.ensures ∙ c.if-is_some.false) c.requires.own c.requires.host c.react.ensures.step).step)

pub returns-clause-below : goal.returns-clause-below
returns-clause-below g c =
    let at = found-at _ c.args.self.now.state c.args.cntlid c.in-Some.index c.index.result.now
    (state-is c.self.view_is) c.self.invariant c.in-Some.ensures.some c.index.ensures in
    subst (λ (t : FleetState).
    AppliesRaw (driver_at t.drivers c.args.cntlid) g.M.Medium.tells (layers_of t) c.args.event (seen_of c.told.result)
    (record { subsystem = c.react.new.self.state; drivers = c.self.inside.drivers.items })) (state-is c.self.view_is)
    (applied-below g.M.Medium.tells _ c.react.new.self.state c.args.cntlid c.index.result.now c.args.event
    (machine.seen_of c.react.result) (seen_of c.told.result) at.driver
    (sym c.is_some.ensures ∙ c.if-is_some.false) c.react.ensures.step (c.told.ensures.seen no_marks))

pub returns-clause-medium : goal.returns-clause-medium
returns-clause-medium g c = c.react.ensures.medium ∙ medium-is c.self.view_is

pub react-requires : goal.react-requires
react-requires g c = record { quiet = hosts-execute-nothing c.args.event c.requires.host }
