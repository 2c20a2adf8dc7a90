use Rattle.nvme_fleet.proofs.Words.{
  ◌∙◌,
  length,
  map,
  sym,
  ap,
  subst,
  refl,
  arith,
  option_map,
  after_reset,
  step-count,
  AreCycled,
  state-is,
}
use Rattle.nvme_machine.specs.Bare as machine
use Rattle.nvme_machine.specs.declared.event.Event.TheVariants.{PowerCycle}
use Rattle.nvme_fleet.proofs.PowerStep.{are-cycled, cycled-at}
use Rattle.nvme_fleet.proofs.fleet.Fleet.power_cycle.Goals as goal

pub reset_all-requires-clause-pairs : goal.reset_all-requires-clause-pairs
reset_all-requires-clause-pairs g c =
    ap length c.deref_mut.ensures.value ∙ c.self.invariant.pairs
    ∙ sym (step-count g.M.Medium.tells c.self.inside.subsystem.state c.react.new.self.state PowerCycle
    (machine.seen_of c.react.result) c.react.ensures.step)

pub reset_all-requires-clause-cycled : goal.reset_all-requires-clause-cycled
reset_all-requires-clause-cycled g c =
    subst AreCycled (sym c.react.ensures.step.1) (are-cycled c.self.inside.subsystem.state)

pub invariant_of-self : goal.invariant_of-self
invariant_of-self g c =
    (cycled-at g.M.Medium.tells _ _ _ _ c.self.inside.drivers.len (state-is c.self.view_is) c.self.invariant
    (c.reset_all.ensures.state ∙ c.react.ensures.step.1)
    (c.reset_all.ensures.drivers ∙ ap (map (option_map after_reset)) c.deref_mut.ensures.value)
    (omega (arith, c.deref_mut.ensures.len, c.reset_all.auto.drivers))).sound

pub returns-clause-step : goal.returns-clause-step
returns-clause-step g c = (
  refl,
  (cycled-at g.M.Medium.tells _ _ _ _ c.self.inside.drivers.len (state-is c.self.view_is) c.self.invariant
      (c.reset_all.ensures.state ∙ c.react.ensures.step.1)
      (c.reset_all.ensures.drivers ∙ ap (map (option_map after_reset)) c.deref_mut.ensures.value)
      (omega (arith, c.deref_mut.ensures.len, c.reset_all.auto.drivers))).step,
)

pub returns-clause-below : goal.returns-clause-below
returns-clause-below g c =
    (cycled-at g.M.Medium.tells _ _ _ _ c.self.inside.drivers.len (state-is c.self.view_is) c.self.invariant
    (c.reset_all.ensures.state ∙ c.react.ensures.step.1)
    (c.reset_all.ensures.drivers ∙ ap (map (option_map after_reset)) c.deref_mut.ensures.value)
    (omega (arith, c.deref_mut.ensures.len, c.reset_all.auto.drivers))).below
