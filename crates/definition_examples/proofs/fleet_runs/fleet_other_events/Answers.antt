use Rattle.definition_examples.proofs.FleetRuns.{fleet_other_events_looked}
use Rattle.definition_examples.proofs.fleet_runs.fleet_other_events.Goals as goal

pub returns-clause-looked : goal.returns-clause-looked
returns-clause-looked c = fleet_other_events_looked
