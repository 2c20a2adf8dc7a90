use Rattle.definition_examples.proofs.DriverPlacings.{
  command_window_after,
  command_window_without_slot,
  request_window,
  request_window_without_slot,
}
use Rattle.definition_examples.proofs.driver_placings.driver_placed_windows.Goals as goal

pub returns-clause-request : goal.returns-clause-request
returns-clause-request c = request_window

pub returns-clause-no_slot : goal.returns-clause-no_slot
returns-clause-no_slot c = request_window_without_slot

pub returns-clause-command : goal.returns-clause-command
returns-clause-command c = command_window_after

pub returns-clause-no_command_slot : goal.returns-clause-no_command_slot
returns-clause-no_command_slot c = command_window_without_slot
