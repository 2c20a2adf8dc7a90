use Rattle.definition_examples.proofs.FleetDriverEvents.{
  fleet_resets_gives,
  fleet_resets_effect,
  fleet_resets_raw,
  fleet_resets_raw_unchanged,
}
use Rattle.definition_examples.proofs.fleet_driver_events.fleet_resets.Goals as goal

pub returns-clause-gives : goal.returns-clause-gives
returns-clause-gives c = fleet_resets_gives

pub returns-clause-effect : goal.returns-clause-effect
returns-clause-effect c = fleet_resets_effect

pub returns-clause-raw : goal.returns-clause-raw
returns-clause-raw c = fleet_resets_raw

pub returns-clause-raw_unchanged : goal.returns-clause-raw_unchanged
returns-clause-raw_unchanged c = fleet_resets_raw_unchanged
