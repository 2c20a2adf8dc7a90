use Rattle.definition_examples.proofs.MachineCalls.{machine_io_executions_queues}
use Rattle.definition_examples.proofs.machine_calls.machine_io_executions.Goals as goal

pub returns : goal.returns
returns c = record { queues = machine_io_executions_queues }
