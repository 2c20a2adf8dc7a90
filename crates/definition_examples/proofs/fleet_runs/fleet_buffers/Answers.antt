use Rattle.definition_examples.proofs.FleetRuns.{fleet_buffers_filled}
use Rattle.definition_examples.proofs.fleet_runs.fleet_buffers.Goals as goal

pub returns-clause-filled : goal.returns-clause-filled
returns-clause-filled c = fleet_buffers_filled
