use Rattle.nvme_machine.proofs.PowerCycles.{protected_until_power}
use Rattle.nvme_machine.proofs.laws.protected_until_power.Goals as goal

pub returns : goal.returns
returns c = protected_until_power
