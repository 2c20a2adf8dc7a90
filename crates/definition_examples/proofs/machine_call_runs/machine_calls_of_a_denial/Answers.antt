use Rattle.definition_examples.proofs.MachineCallRuns.{denial_is_needed, nothing_is_called_if_denied}
use Rattle.definition_examples.proofs.machine_call_runs.machine_calls_of_a_denial.Goals as goal

pub returns-clause-nothing : goal.returns-clause-nothing
returns-clause-nothing c = nothing_is_called_if_denied

pub returns-clause-any_rule : goal.returns-clause-any_rule
returns-clause-any_rule c = denial_is_needed
