use Rattle.nvme_mailbox.proofs.Regular.{opening_is_regular, regularity_stays}
use Rattle.nvme_fleet.proofs.Secrecy.{layers_read_the_same}
use Rattle.nvme_mailbox.proofs.Secrecy.{fenced_reading, fenced_reading_is_same}
use Rattle.nvme_fleet.proofs.laws.fenced_hosts_learn_nothing.Goals as goal

pub returns : goal.returns
returns c = record {
  opening = opening_is_regular;
  stays = regularity_stays;
  possible = fenced_reading;
  same = fenced_reading_is_same;
  layers = layers_read_the_same;
}
