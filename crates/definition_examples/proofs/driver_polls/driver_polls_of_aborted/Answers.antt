use Rattle.definition_examples.proofs.DriverPolls.{aborted_calls, aborted_freed, aborted_result}
use Rattle.definition_examples.proofs.driver_polls.driver_polls_of_aborted.Goals as goal

pub returns-clause-result : goal.returns-clause-result
returns-clause-result c = aborted_result

pub returns-clause-driver : goal.returns-clause-driver
returns-clause-driver c = aborted_freed

pub returns-clause-calls : goal.returns-clause-calls
returns-clause-calls c = aborted_calls
