use Rattle.nvme_spec.proofs.Power.{cycle_keeps_rights}
use Rattle.nvme_spec.proofs.laws.power.power_cycle.Goals as goal

pub returns-clause-rights : goal.returns-clause-rights
returns-clause-rights c = cycle_keeps_rights
