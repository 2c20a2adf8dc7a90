use Rattle.definition_examples.proofs.FleetDriverCalls.{
  fleet_driverless_calls_driver,
  fleet_driverless_calls_controller,
  fleet_driverless_calls_reply,
}
use Rattle.definition_examples.proofs.fleet_driver_calls.fleet_driverless_calls.Goals as goal

pub returns-clause-driver : goal.returns-clause-driver
returns-clause-driver c = fleet_driverless_calls_driver

pub returns-clause-controller : goal.returns-clause-controller
returns-clause-controller c = fleet_driverless_calls_controller

pub returns-clause-reply : goal.returns-clause-reply
returns-clause-reply c = fleet_driverless_calls_reply
