use Rattle.definition_examples.proofs.MachineCallRuns.{status_is_needed_for_a_write_fault, stops_writing, write_fails}
use Rattle.definition_examples.proofs.machine_call_runs.machine_calls_of_a_write_fault.Goals as goal

pub returns-clause-write : goal.returns-clause-write
returns-clause-write c = write_fails

pub returns-clause-stops : goal.returns-clause-stops
returns-clause-stops c = stops_writing

pub returns-clause-any_status : goal.returns-clause-any_status
returns-clause-any_status c = status_is_needed_for_a_write_fault
