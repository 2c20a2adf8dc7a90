use Rattle.definition_examples.proofs.FleetRuns.{fleet_turns_calls}
use Rattle.definition_examples.proofs.fleet_runs.fleet_turns.Goals as goal

pub returns : goal.returns
returns c = record { calls = fleet_turns_calls }
