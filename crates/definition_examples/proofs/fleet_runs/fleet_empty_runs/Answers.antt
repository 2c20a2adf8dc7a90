use Rattle.definition_examples.proofs.FleetRuns.{fleet_empty_runs_unchanged, fleet_empty_runs_calls}
use Rattle.definition_examples.proofs.fleet_runs.fleet_empty_runs.Goals as goal

pub returns-clause-unchanged : goal.returns-clause-unchanged
returns-clause-unchanged c = fleet_empty_runs_unchanged

pub returns-clause-calls : goal.returns-clause-calls
returns-clause-calls c = fleet_empty_runs_calls
