use Rattle.definition_examples.proofs.MachineCallRuns.{
  compare_fails,
  status_is_needed_for_a_compare_failure,
  stops_comparing,
}
use Rattle.definition_examples.proofs.machine_call_runs.machine_calls_of_a_compare_failure.Goals as goal

pub returns-clause-compare : goal.returns-clause-compare
returns-clause-compare c = compare_fails

pub returns-clause-stops : goal.returns-clause-stops
returns-clause-stops c = stops_comparing

pub returns-clause-any_status : goal.returns-clause-any_status
returns-clause-any_status c = status_is_needed_for_a_compare_failure
