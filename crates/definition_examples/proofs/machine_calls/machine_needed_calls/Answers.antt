use Rattle.definition_examples.proofs.MachineCalls.{
  machine_needed_calls_write,
  machine_needed_calls_write_before,
  machine_needed_calls_write_after,
  machine_needed_calls_zero_before,
  machine_needed_calls_zero_after,
  machine_needed_calls_other,
}
use Rattle.definition_examples.proofs.machine_calls.machine_needed_calls.Goals as goal

pub returns-clause-write : goal.returns-clause-write
returns-clause-write c = machine_needed_calls_write

pub returns-clause-write_before : goal.returns-clause-write_before
returns-clause-write_before c = machine_needed_calls_write_before

pub returns-clause-write_after : goal.returns-clause-write_after
returns-clause-write_after c = machine_needed_calls_write_after

pub returns-clause-zero_before : goal.returns-clause-zero_before
returns-clause-zero_before c = machine_needed_calls_zero_before

pub returns-clause-zero_after : goal.returns-clause-zero_after
returns-clause-zero_after c = machine_needed_calls_zero_after

pub returns-clause-other : goal.returns-clause-other
returns-clause-other c = machine_needed_calls_other
