use Rattle.nvme_notices.proofs.RunLaws.{counted-adds, counted-reads}
use Rattle.nvme_notices.proofs.laws.counted.Goals as goal

pub returns-clause-adds : goal.returns-clause-adds
returns-clause-adds c = counted-adds

pub returns-clause-reads : goal.returns-clause-reads
returns-clause-reads c = counted-reads
