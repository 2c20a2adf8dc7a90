use Rattle.definition_examples.proofs.FleetCalls.{
  fleet_quiet_events_up,
  fleet_quiet_events_placed,
  fleet_quiet_events_rung,
  fleet_quiet_events_fetched,
  fleet_quiet_events_polled,
  fleet_quiet_events_reset,
  fleet_quiet_events_written,
  fleet_quiet_events_cycled,
}
use Rattle.definition_examples.proofs.fleet_calls.fleet_quiet_events.Goals as goal

pub returns-clause-up : goal.returns-clause-up
returns-clause-up c = fleet_quiet_events_up

pub returns-clause-placed : goal.returns-clause-placed
returns-clause-placed c = fleet_quiet_events_placed

pub returns-clause-rung : goal.returns-clause-rung
returns-clause-rung c = fleet_quiet_events_rung

pub returns-clause-fetched : goal.returns-clause-fetched
returns-clause-fetched c = fleet_quiet_events_fetched

pub returns-clause-polled : goal.returns-clause-polled
returns-clause-polled c = fleet_quiet_events_polled

pub returns-clause-reset : goal.returns-clause-reset
returns-clause-reset c = fleet_quiet_events_reset

pub returns-clause-written : goal.returns-clause-written
returns-clause-written c = fleet_quiet_events_written

pub returns-clause-cycled : goal.returns-clause-cycled
returns-clause-cycled c = fleet_quiet_events_cycled
