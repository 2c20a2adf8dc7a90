use Rattle.definition_examples.proofs.MachineCalls.{machine_failed_writes_nothing, machine_failed_writes_reading}
use Rattle.definition_examples.proofs.machine_calls.machine_failed_writes.Goals as goal

pub returns-clause-nothing : goal.returns-clause-nothing
returns-clause-nothing c = machine_failed_writes_nothing

pub returns-clause-reading : goal.returns-clause-reading
returns-clause-reading c = machine_failed_writes_reading
