use Rattle.definition_examples.proofs.DriverPlacings.{
  request_not_taken,
  request_placed,
  request_stored,
  request_without_slot,
}
use Rattle.definition_examples.proofs.driver_placings.driver_placed_requests.Goals as goal

pub returns-clause-placed : goal.returns-clause-placed
returns-clause-placed c = request_placed

pub returns-clause-no_slot : goal.returns-clause-no_slot
returns-clause-no_slot c = request_without_slot

pub returns-clause-not_taken : goal.returns-clause-not_taken
returns-clause-not_taken c = request_not_taken

pub returns-clause-stores : goal.returns-clause-stores
returns-clause-stores c = request_stored
