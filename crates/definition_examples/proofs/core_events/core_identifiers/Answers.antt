use Rattle.definition_examples.proofs.CoreEvents.{
  core_identifiers_highest,
  core_identifiers_over,
  core_identifiers_second,
}
use Rattle.definition_examples.proofs.core_events.core_identifiers.Goals as goal

pub returns-clause-highest : goal.returns-clause-highest
returns-clause-highest c = core_identifiers_highest

pub returns-clause-over : goal.returns-clause-over
returns-clause-over c = core_identifiers_over

pub returns-clause-second : goal.returns-clause-second
returns-clause-second c = core_identifiers_second
