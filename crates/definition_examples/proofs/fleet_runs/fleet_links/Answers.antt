use Rattle.definition_examples.proofs.FleetRuns.{
  fleet_links_zero,
  fleet_links_last,
  fleet_links_beyond,
  fleet_links_name,
  fleet_links_reached,
}
use Rattle.definition_examples.proofs.fleet_runs.fleet_links.Goals as goal

pub returns-clause-zero : goal.returns-clause-zero
returns-clause-zero c = fleet_links_zero

pub returns-clause-last : goal.returns-clause-last
returns-clause-last c = fleet_links_last

pub returns-clause-beyond : goal.returns-clause-beyond
returns-clause-beyond c = fleet_links_beyond

pub returns-clause-name : goal.returns-clause-name
returns-clause-name c = fleet_links_name

pub returns-clause-reached : goal.returns-clause-reached
returns-clause-reached c = fleet_links_reached
