use Rattle.definition_examples.proofs.CoreRegisters.{
  core_small_identifiers_highest,
  core_small_identifiers_higher,
  core_small_identifiers_second,
}
use Rattle.definition_examples.proofs.core_registers.core_small_identifiers.Goals as goal

pub returns-clause-highest : goal.returns-clause-highest
returns-clause-highest c = core_small_identifiers_highest

pub returns-clause-higher : goal.returns-clause-higher
returns-clause-higher c = core_small_identifiers_higher

pub returns-clause-second : goal.returns-clause-second
returns-clause-second c = core_small_identifiers_second
