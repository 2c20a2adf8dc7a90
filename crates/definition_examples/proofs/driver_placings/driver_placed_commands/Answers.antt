use Rattle.definition_examples.proofs.DriverPlacings.{
  command_not_taken,
  command_placed,
  command_stored,
  command_without_slot,
}
use Rattle.definition_examples.proofs.driver_placings.driver_placed_commands.Goals as goal

pub returns-clause-placed : goal.returns-clause-placed
returns-clause-placed c = command_placed

pub returns-clause-no_slot : goal.returns-clause-no_slot
returns-clause-no_slot c = command_without_slot

pub returns-clause-not_taken : goal.returns-clause-not_taken
returns-clause-not_taken c = command_not_taken

pub returns-clause-stores : goal.returns-clause-stores
returns-clause-stores c = command_stored
