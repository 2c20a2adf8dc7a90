use Rattle.nvme_spec.proofs.RegisterLaws.{begins_consistent, stays_consistent}
use Rattle.nvme_spec.proofs.laws.registers.consistent_registers.Goals as goal

pub returns-clause-begins : goal.returns-clause-begins
returns-clause-begins c = begins_consistent

pub returns-clause-stays : goal.returns-clause-stays
returns-clause-stays c = stays_consistent
