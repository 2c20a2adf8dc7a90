use Rattle.definition_examples.proofs.MachineStates.{
  machine_unused_controllers_registers,
  machine_unused_controllers_submission,
  machine_unused_controllers_completion,
}
use Rattle.definition_examples.proofs.machine_states.machine_unused_controllers.Goals as goal

pub returns-clause-registers : goal.returns-clause-registers
returns-clause-registers c = machine_unused_controllers_registers

pub returns-clause-submission : goal.returns-clause-submission
returns-clause-submission c = machine_unused_controllers_submission

pub returns-clause-completion : goal.returns-clause-completion
returns-clause-completion c = machine_unused_controllers_completion
