use Rattle.definition_examples.proofs.MachineFlushRuns.{
  denied_write_does_not_succeed,
  denied_write_waits,
  verdict_is_needed,
  write_is_judged,
}
use Rattle.definition_examples.proofs.machine_call_runs.machine_status_of_a_denied_write.Goals as goal

pub returns-clause-waits : goal.returns-clause-waits
returns-clause-waits c = denied_write_waits

pub returns-clause-denied : goal.returns-clause-denied
returns-clause-denied c = write_is_judged

pub returns-clause-no_success : goal.returns-clause-no_success
returns-clause-no_success c = denied_write_does_not_succeed

pub returns-clause-any_verdict : goal.returns-clause-any_verdict
returns-clause-any_verdict c = verdict_is_needed
