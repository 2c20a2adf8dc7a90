use Rattle.nvme_fabrics.proofs.BestOf.{chosen-is-free, none-is-free}
use Rattle.nvme_fabrics.proofs.laws.free_controllers.Goals as goal

pub returns-clause-chosen : goal.returns-clause-chosen
returns-clause-chosen c = chosen-is-free

pub returns-clause-none : goal.returns-clause-none
returns-clause-none c = none-is-free
