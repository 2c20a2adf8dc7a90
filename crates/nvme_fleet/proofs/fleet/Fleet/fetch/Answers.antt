use Rattle.nvme_fleet.proofs.Words.{◌∙◌, refl, no_marks, after_fetch, misses, medium-is}
use Rattle.nvme_machine.specs.declared.seen.Seen.TheVariants as given
use Rattle.nvme_machine.specs.Bare as machine
use Rattle.nvme_fleet.proofs.EventEffects.{fetched-if}
use Rattle.nvme_fleet.proofs.fleet.Fleet.fetch.Goals as goal

pub returns-in_default-clause-below : goal.returns-in_default-clause-below
returns-in_default-clause-below g c = record {
  given = given.NoController;
  step = misses c.args.self.now.state.subsystem c.args.cntlid (after_fetch c.args.qid) c.in_default.ensures.absent;
  gives = refl;
  drivers = refl;
}

pub invariant_of-self : goal.invariant_of-self
invariant_of-self g c =
    (fetched-if _ _ c.react.new.self.state c.args.cntlid c.args.qid
    (machine.seen_of c.react.result) refl c.self.invariant c.react.ensures.step).sound

pub returns-clause-step : goal.returns-clause-step
returns-clause-step g c =
    rw (← c.self.view_is, c.told.ensures.seen no_marks) ((fetched-if _ _ c.react.new.self.state c.args.cntlid c.args.qid
    (machine.seen_of c.react.result) refl c.self.invariant c.react.ensures.step).step)

pub returns-clause-medium : goal.returns-clause-medium
returns-clause-medium g c = c.react.ensures.medium ∙ medium-is c.self.view_is
