use Rattle.nvme_spec.proofs.RegisterEffects.{effects_tell, doorbells_name_queues}
use Rattle.nvme_spec.proofs.laws.registers.effects.Goals as goal

pub returns-clause-tell : goal.returns-clause-tell
returns-clause-tell c = effects_tell

pub returns-clause-names : goal.returns-clause-names
returns-clause-names c = doorbells_name_queues
