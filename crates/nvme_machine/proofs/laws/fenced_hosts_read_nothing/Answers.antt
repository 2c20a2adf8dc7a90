use Rattle.nvme_machine.proofs.Secrecy.{fenced_reading_is_same}
use Rattle.nvme_machine.proofs.laws.fenced_hosts_read_nothing.Goals as goal

pub returns-clause-same : goal.returns-clause-same
returns-clause-same c = fenced_reading_is_same
