use Rattle.definition_examples.proofs.FleetRuns.{fleet_partial_runs_fewer}
use Rattle.definition_examples.proofs.fleet_runs.fleet_partial_runs.Goals as goal

pub returns : goal.returns
returns c = record { fewer = fleet_partial_runs_fewer }
