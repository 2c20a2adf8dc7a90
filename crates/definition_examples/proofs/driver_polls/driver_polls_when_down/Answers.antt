use Rattle.definition_examples.proofs.DriverPolls.{poll_when_down}
use Rattle.definition_examples.proofs.driver_polls.driver_polls_when_down.Goals as goal

pub returns : goal.returns
returns c = record { down = poll_when_down }
