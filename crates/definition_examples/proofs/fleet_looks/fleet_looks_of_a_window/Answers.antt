use Rattle.definition_examples.proofs.FleetLooks.{fleet_loaded, fleet_seen}
use Rattle.definition_examples.proofs.fleet_looks.fleet_looks_of_a_window.Goals as goal

pub returns-clause-seen : goal.returns-clause-seen
returns-clause-seen c = fleet_seen

pub returns-clause-loaded : goal.returns-clause-loaded
returns-clause-loaded c = fleet_loaded
