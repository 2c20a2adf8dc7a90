use Rattle.definition_examples.proofs.CoreRegisters.{
  core_configured_registers_registers,
  core_configured_registers_exactly,
}
use Rattle.definition_examples.proofs.core_registers.core_configured_registers.Goals as goal

pub returns-clause-registers : goal.returns-clause-registers
returns-clause-registers c = core_configured_registers_registers

pub returns-clause-exactly : goal.returns-clause-exactly
returns-clause-exactly c = core_configured_registers_exactly
