use Rattle.definition_examples.proofs.MachineCalls.{
  machine_failed_compares_nothing,
  machine_failed_compares_writing,
  machine_failed_compares_zeroing,
  machine_failed_compares_flushing,
  machine_failed_compares_some,
  machine_failed_compares_calls,
}
use Rattle.definition_examples.proofs.machine_calls.machine_failed_compares.Goals as goal

pub returns-clause-nothing : goal.returns-clause-nothing
returns-clause-nothing c = machine_failed_compares_nothing

pub returns-clause-writing : goal.returns-clause-writing
returns-clause-writing c = machine_failed_compares_writing

pub returns-clause-zeroing : goal.returns-clause-zeroing
returns-clause-zeroing c = machine_failed_compares_zeroing

pub returns-clause-flushing : goal.returns-clause-flushing
returns-clause-flushing c = machine_failed_compares_flushing

pub returns-clause-some : goal.returns-clause-some
returns-clause-some c = machine_failed_compares_some

pub returns-clause-calls : goal.returns-clause-calls
returns-clause-calls c = machine_failed_compares_calls
