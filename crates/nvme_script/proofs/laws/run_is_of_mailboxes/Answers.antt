use Rattle.nvme_script.proofs.Mailboxes.{calling_runs, calling_stops}
use Rattle.nvme_script.proofs.laws.run_is_of_mailboxes.Goals as goal

pub returns-clause-ran : goal.returns-clause-ran
returns-clause-ran g c = calling_runs g.M.Medium.step g.M.Medium.tells g.M.Medium.device

pub returns-clause-stopped : goal.returns-clause-stopped
returns-clause-stopped g c = calling_stops g.M.Medium.step g.M.Medium.tells g.M.Medium.device
