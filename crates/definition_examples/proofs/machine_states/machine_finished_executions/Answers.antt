use Rattle.definition_examples.proofs.MachineStates.{
  machine_finished_executions_posted,
  machine_finished_executions_controller,
  machine_finished_executions_world,
  machine_finished_executions_device,
}
use Rattle.definition_examples.proofs.machine_states.machine_finished_executions.Goals as goal

pub returns-clause-posted : goal.returns-clause-posted
returns-clause-posted c = machine_finished_executions_posted

pub returns-clause-controller : goal.returns-clause-controller
returns-clause-controller c = machine_finished_executions_controller

pub returns-clause-world : goal.returns-clause-world
returns-clause-world c = machine_finished_executions_world

pub returns-clause-device : goal.returns-clause-device
returns-clause-device c = machine_finished_executions_device
