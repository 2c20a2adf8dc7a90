use Rattle.definition_examples.proofs.MachineCallRuns.{
  compare_failure_is_needed,
  nothing_is_called,
  read_error_is_needed,
  success_is_needed,
  write_fault_is_needed,
  write_is_denied,
}
use Rattle.definition_examples.proofs.machine_call_runs.machine_calls_of_another_answer.Goals as goal

pub returns-clause-write : goal.returns-clause-write
returns-clause-write c = write_is_denied

pub returns-clause-nothing : goal.returns-clause-nothing
returns-clause-nothing c = nothing_is_called

pub returns-clause-unless_it_succeeds : goal.returns-clause-unless_it_succeeds
returns-clause-unless_it_succeeds c = success_is_needed

pub returns-clause-unless_a_write_fails : goal.returns-clause-unless_a_write_fails
returns-clause-unless_a_write_fails c = write_fault_is_needed

pub returns-clause-unless_a_read_fails : goal.returns-clause-unless_a_read_fails
returns-clause-unless_a_read_fails c = read_error_is_needed

pub returns-clause-unless_a_block_differs : goal.returns-clause-unless_a_block_differs
returns-clause-unless_a_block_differs c = compare_failure_is_needed
