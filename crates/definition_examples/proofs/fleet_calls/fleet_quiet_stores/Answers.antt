use Rattle.definition_examples.proofs.FleetCalls.{fleet_quiet_stores_calls, fleet_quiet_stores_effect}
use Rattle.definition_examples.proofs.fleet_calls.fleet_quiet_stores.Goals as goal

pub returns-clause-calls : goal.returns-clause-calls
returns-clause-calls c = fleet_quiet_stores_calls

pub returns-clause-effect : goal.returns-clause-effect
returns-clause-effect c = fleet_quiet_stores_effect
