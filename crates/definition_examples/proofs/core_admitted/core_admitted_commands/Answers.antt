use Rattle.definition_examples.proofs.CoreAdmitted.{
  core_admitted_commands_protects,
  core_admitted_commands_attaches,
  core_admitted_commands_size,
}
use Rattle.definition_examples.proofs.core_admitted.core_admitted_commands.Goals as goal

pub returns-clause-protects : goal.returns-clause-protects
returns-clause-protects c = core_admitted_commands_protects

pub returns-clause-attaches : goal.returns-clause-attaches
returns-clause-attaches c = core_admitted_commands_attaches

pub returns-clause-size : goal.returns-clause-size
returns-clause-size c = core_admitted_commands_size
