use Rattle.definition_examples.proofs.DriverPlacings.{
  command_happens,
  placing_happens,
  poll_happens,
  second_slot_is_not_lowest,
  second_slot_is_not_lowest_for_command,
  stay_happens,
}
use Rattle.definition_examples.proofs.driver_placings.driver_events.Goals as goal

pub returns-clause-places : goal.returns-clause-places
returns-clause-places c = placing_happens

pub returns-clause-places_lowest : goal.returns-clause-places_lowest
returns-clause-places_lowest c = second_slot_is_not_lowest

pub returns-clause-commands : goal.returns-clause-commands
returns-clause-commands c = command_happens

pub returns-clause-commands_lowest : goal.returns-clause-commands_lowest
returns-clause-commands_lowest c = second_slot_is_not_lowest_for_command

pub returns-clause-polls : goal.returns-clause-polls
returns-clause-polls c = poll_happens

pub returns-clause-stays : goal.returns-clause-stays
returns-clause-stays c = stay_happens
