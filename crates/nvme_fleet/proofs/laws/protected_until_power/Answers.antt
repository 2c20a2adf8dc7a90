use Rattle.nvme_fleet.proofs.PowerCycles as power
use Rattle.nvme_fleet.proofs.laws.protected_until_power.Goals as goal

pub returns : goal.returns
returns c = power.protected_until_power
