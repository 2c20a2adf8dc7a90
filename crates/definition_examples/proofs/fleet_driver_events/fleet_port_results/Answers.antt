use Rattle.definition_examples.proofs.FleetDriverEvents.{fleet_port_results_law}
use Rattle.definition_examples.proofs.fleet_driver_events.fleet_port_results.Goals as goal

pub returns-clause-law : goal.returns-clause-law
returns-clause-law c = fleet_port_results_law
