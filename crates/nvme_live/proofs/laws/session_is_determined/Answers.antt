use Rattle.nvme_live.proofs.SessionLaws.{end_is_unique, session_is_unique}
use Rattle.nvme_live.proofs.laws.session_is_determined.Goals as goal

pub returns-clause-lines : goal.returns-clause-lines
returns-clause-lines c = session_is_unique

pub returns-clause-end : goal.returns-clause-end
returns-clause-end c = end_is_unique
