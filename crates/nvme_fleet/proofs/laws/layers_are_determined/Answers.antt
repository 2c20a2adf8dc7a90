use Rattle.nvme_fleet.proofs.Unique.{layers_run_is_unique, opening_has_tickets_once, tickets_stay_once}
use Rattle.nvme_fleet.proofs.laws.layers_are_determined.Goals as goal

pub returns : goal.returns
returns c = record {
  opening = opening_has_tickets_once;
  stays = tickets_stay_once;
  unique = layers_run_is_unique;
}
