use Rattle.definition_examples.proofs.FleetDriverCalls.{fleet_mailbox_calls_step}
use Rattle.definition_examples.proofs.fleet_driver_calls.fleet_mailbox_calls.Goals as goal

pub returns : goal.returns
returns c = record { step = fleet_mailbox_calls_step }
