use Rattle.nvme_machine.proofs.Determined.{run_exists}
use Rattle.nvme_machine.proofs.laws.run_is_determined.Goals as goal

pub returns-clause-exists : goal.returns-clause-exists
returns-clause-exists c = run_exists
