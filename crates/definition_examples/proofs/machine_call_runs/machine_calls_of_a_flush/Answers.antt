use Rattle.definition_examples.proofs.MachineFlushRuns.{
  flush_fails,
  flush_is_allowed,
  flush_is_needed,
  flush_succeeds,
  flush_waits,
  is_one_failed_flush,
  is_one_flush,
}
use Rattle.definition_examples.proofs.machine_call_runs.machine_calls_of_a_flush.Goals as goal

pub returns-clause-waits : goal.returns-clause-waits
returns-clause-waits c = flush_waits

pub returns-clause-allowed : goal.returns-clause-allowed
returns-clause-allowed c = flush_is_allowed

pub returns-clause-done : goal.returns-clause-done
returns-clause-done c = flush_succeeds

pub returns-clause-failed : goal.returns-clause-failed
returns-clause-failed c = flush_fails

pub returns-clause-one_done : goal.returns-clause-one_done
returns-clause-one_done c = is_one_flush

pub returns-clause-one_failed : goal.returns-clause-one_failed
returns-clause-one_failed c = is_one_failed_flush

pub returns-clause-any_command : goal.returns-clause-any_command
returns-clause-any_command c = flush_is_needed
