use Rattle.nvme_medium.proofs.CallLaws.{memory_calls_can_be_made}
use Rattle.nvme_medium.proofs.laws.memory_is_determined.Goals as goal

pub returns-clause-exists : goal.returns-clause-exists
returns-clause-exists c = memory_calls_can_be_made
