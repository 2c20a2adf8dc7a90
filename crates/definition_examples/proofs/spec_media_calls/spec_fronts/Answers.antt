use Rattle.definition_examples.proofs.SpecCalls.{front_is_read, front_is_same, front_of_nothing}
use Rattle.definition_examples.proofs.spec_media_calls.spec_fronts.Goals as goal

pub returns-clause-read : goal.returns-clause-read
returns-clause-read c = front_is_read

pub returns-clause-compared : goal.returns-clause-compared
returns-clause-compared c = front_is_same

pub returns-clause-nothing : goal.returns-clause-nothing
returns-clause-nothing c = front_of_nothing
