use Rattle.definition_examples.proofs.FleetDriverEvents.{fleet_refused_rings_driver, fleet_refused_rings_subsystem}
use Rattle.definition_examples.proofs.fleet_driver_events.fleet_refused_rings.Goals as goal

pub returns-clause-driver : goal.returns-clause-driver
returns-clause-driver c = fleet_refused_rings_driver

pub returns-clause-subsystem : goal.returns-clause-subsystem
returns-clause-subsystem c = fleet_refused_rings_subsystem
