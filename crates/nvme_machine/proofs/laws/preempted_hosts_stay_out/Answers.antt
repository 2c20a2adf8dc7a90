use Rattle.nvme_machine.proofs.Preempted.{preempted_stays_out}
use Rattle.nvme_machine.proofs.laws.preempted_hosts_stay_out.Goals as goal

pub returns-clause-run : goal.returns-clause-run
returns-clause-run c = preempted_stays_out
