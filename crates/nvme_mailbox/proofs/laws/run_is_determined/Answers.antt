use Rattle.nvme_mailbox.proofs.Existing.{run_exists}
use Rattle.nvme_mailbox.proofs.laws.run_is_determined.Goals as goal

pub returns-clause-exists : goal.returns-clause-exists
returns-clause-exists c = run_exists
