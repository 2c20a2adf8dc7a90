use Rattle.definition_examples.proofs.CoreTargets.{
  core_ending_inputs_connect,
  core_ending_inputs_authenticated,
  core_ending_inputs_other_command,
  core_ending_inputs_other_closed,
  core_ending_inputs_association,
}
use Rattle.definition_examples.proofs.core_targets.core_ending_inputs.Goals as goal

pub returns-clause-connect : goal.returns-clause-connect
returns-clause-connect c = core_ending_inputs_connect

pub returns-clause-authenticated : goal.returns-clause-authenticated
returns-clause-authenticated c = core_ending_inputs_authenticated

pub returns-clause-other_command : goal.returns-clause-other_command
returns-clause-other_command c = core_ending_inputs_other_command

pub returns-clause-other_closed : goal.returns-clause-other_closed
returns-clause-other_closed c = core_ending_inputs_other_closed

pub returns-clause-association : goal.returns-clause-association
returns-clause-association c = core_ending_inputs_association
