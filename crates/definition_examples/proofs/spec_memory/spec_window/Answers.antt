use Rattle.definition_examples.proofs.SpecMemory.{zeros_alone}
use Rattle.definition_examples.proofs.spec_memory.spec_window.Goals as goal

pub returns-clause-zeros : goal.returns-clause-zeros
returns-clause-zeros c = zeros_alone
