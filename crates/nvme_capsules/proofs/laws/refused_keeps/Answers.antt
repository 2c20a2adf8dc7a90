use Rattle.nvme_capsules.proofs.Ending.{end-is-final, no-room-keeps}
use Rattle.nvme_capsules.proofs.laws.refused_keeps.Goals as goal

pub returns-clause-room : goal.returns-clause-room
returns-clause-room c = no-room-keeps

pub returns-clause-end : goal.returns-clause-end
returns-clause-end c = end-is-final
