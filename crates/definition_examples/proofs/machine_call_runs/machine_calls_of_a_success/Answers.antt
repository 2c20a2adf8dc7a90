use Rattle.definition_examples.proofs.MachineCallRuns.{both_are_written, status_is_needed_for_the_whole, write_succeeds}
use Rattle.definition_examples.proofs.machine_call_runs.machine_calls_of_a_success.Goals as goal

pub returns-clause-write : goal.returns-clause-write
returns-clause-write c = write_succeeds

pub returns-clause-whole : goal.returns-clause-whole
returns-clause-whole c = both_are_written

pub returns-clause-any_status : goal.returns-clause-any_status
returns-clause-any_status c = status_is_needed_for_the_whole
