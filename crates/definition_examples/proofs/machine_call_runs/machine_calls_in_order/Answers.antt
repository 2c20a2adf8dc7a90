use Rattle.definition_examples.proofs.MachineFlushRuns.{calls_of_the_run_are_needed, order_at_work}
use Rattle.definition_examples.proofs.machine_call_runs.machine_calls_in_order.Goals as goal

pub returns-clause-at_work : goal.returns-clause-at_work
returns-clause-at_work c = order_at_work

pub returns-clause-any_calls : goal.returns-clause-any_calls
returns-clause-any_calls c = calls_of_the_run_are_needed
