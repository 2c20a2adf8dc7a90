use Rattle.nvme_script.proofs.Alone.{transcript_is_unique, transcript_exists}
use Rattle.nvme_script.proofs.laws.transcript_is_determined.Goals as goal

pub returns-clause-unique : goal.returns-clause-unique
returns-clause-unique c = transcript_is_unique

pub returns-clause-exists : goal.returns-clause-exists
returns-clause-exists c = transcript_exists
