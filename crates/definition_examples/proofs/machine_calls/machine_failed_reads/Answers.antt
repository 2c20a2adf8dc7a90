use Rattle.definition_examples.proofs.MachineCalls.{
  machine_failed_reads_nothing,
  machine_failed_reads_writing,
  machine_failed_reads_zeroing,
  machine_failed_reads_flushing,
}
use Rattle.definition_examples.proofs.machine_calls.machine_failed_reads.Goals as goal

pub returns-clause-nothing : goal.returns-clause-nothing
returns-clause-nothing c = machine_failed_reads_nothing

pub returns-clause-writing : goal.returns-clause-writing
returns-clause-writing c = machine_failed_reads_writing

pub returns-clause-zeroing : goal.returns-clause-zeroing
returns-clause-zeroing c = machine_failed_reads_zeroing

pub returns-clause-flushing : goal.returns-clause-flushing
returns-clause-flushing c = machine_failed_reads_flushing
