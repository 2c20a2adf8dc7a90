use Rattle.nvme_mailbox.proofs.PowerCycles as mailbox
use Rattle.nvme_fleet.proofs.PowerCycles as power
use Rattle.nvme_fleet.proofs.laws.fencing_outlasts_power.Goals as goal

pub returns : goal.returns
returns c = record {
  persists = mailbox.persistence_lasts;
  answers = mailbox.fencing_outlasts_power;
  bytes = power.bytes_outlast_power;
  possible = mailbox.secrecy_outlasts_power;
  same = mailbox.replies_outlast_power;
  layers = power.layers_outlast_power;
}
