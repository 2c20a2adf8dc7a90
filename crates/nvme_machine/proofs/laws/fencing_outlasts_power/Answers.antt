use Rattle.nvme_machine.proofs.PowerCycles.{persistence_lasts}
use Rattle.nvme_machine.proofs.laws.fencing_outlasts_power.Goals as goal

pub returns-clause-persists : goal.returns-clause-persists
returns-clause-persists c = persistence_lasts
