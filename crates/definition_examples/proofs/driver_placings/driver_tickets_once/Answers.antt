use Rattle.definition_examples.proofs.DriverPlacings.{not_twice}
use Rattle.definition_examples.proofs.driver_placings.driver_tickets_once.Goals as goal

pub returns : goal.returns
returns c = record { once = not_twice }
