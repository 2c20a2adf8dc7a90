use Rattle.definition_examples.proofs.MachineCalls.{
  machine_idle_executions_full,
  machine_idle_executions_full_unchanged,
  machine_idle_executions_full_calls,
  machine_idle_executions_none,
  machine_idle_executions_none_calls,
}
use Rattle.definition_examples.proofs.machine_calls.machine_idle_executions.Goals as goal

pub returns-clause-full : goal.returns-clause-full
returns-clause-full c = machine_idle_executions_full

pub returns-clause-full_unchanged : goal.returns-clause-full_unchanged
returns-clause-full_unchanged c = machine_idle_executions_full_unchanged

pub returns-clause-full_calls : goal.returns-clause-full_calls
returns-clause-full_calls c = machine_idle_executions_full_calls

pub returns-clause-none : goal.returns-clause-none
returns-clause-none c = machine_idle_executions_none

pub returns-clause-none_calls : goal.returns-clause-none_calls
returns-clause-none_calls c = machine_idle_executions_none_calls
