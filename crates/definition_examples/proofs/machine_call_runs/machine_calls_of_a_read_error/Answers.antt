use Rattle.definition_examples.proofs.MachineCallRuns.{read_fails, status_is_needed_for_a_read_error, stops_reading}
use Rattle.definition_examples.proofs.machine_call_runs.machine_calls_of_a_read_error.Goals as goal

pub returns-clause-read : goal.returns-clause-read
returns-clause-read c = read_fails

pub returns-clause-stops : goal.returns-clause-stops
returns-clause-stops c = stops_reading

pub returns-clause-any_status : goal.returns-clause-any_status
returns-clause-any_status c = status_is_needed_for_a_read_error
