use Rattle.definition_examples.proofs.FleetLooks.{fleet_load_reaches_none, fleet_look_reaches_none}
use Rattle.definition_examples.proofs.fleet_looks.fleet_looks_are_no_events.Goals as goal

pub returns-clause-look_reaches_none : goal.returns-clause-look_reaches_none
returns-clause-look_reaches_none c = fleet_look_reaches_none

pub returns-clause-load_reaches_none : goal.returns-clause-load_reaches_none
returns-clause-load_reaches_none c = fleet_load_reaches_none
