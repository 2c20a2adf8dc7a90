use Rattle.definition_examples.proofs.DriverLooks.{poll_is_sooner}
use Rattle.definition_examples.proofs.driver_looks.driver_polls_of_a_moment.Goals as goal

pub returns-clause-before : goal.returns-clause-before
returns-clause-before c = poll_is_sooner
