use Rattle.nvme_mailbox.proofs.Preempted.{
  outsiders_may_not_write,
  outsiders_stay_outside,
  preempted_is_outside,
  preempted_stays_out,
}
use Rattle.nvme_mailbox.proofs.laws.preempted_hosts_stay_out.Goals as goal

pub returns : goal.returns
returns c = record {
  outsiders = outsiders_may_not_write;
  outside = outsiders_stay_outside;
  preempted = preempted_is_outside;
  run = preempted_stays_out;
}
