use Rattle.nvme_machine.proofs.PowerCycles.{power_takes}
use Rattle.nvme_machine.proofs.laws.power_takes_what_does_not_persist.Goals as goal

pub returns : goal.returns
returns c = power_takes
