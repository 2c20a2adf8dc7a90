use Rattle.nvme_responses.proofs.Fields.{entries-are-read-back, statuses-are-read-back, few-may-retry}
use Rattle.nvme_responses.proofs.laws.entries.Goals as goal

pub returns-clause-bytes : goal.returns-clause-bytes
returns-clause-bytes c = entries-are-read-back

pub returns-clause-statuses : goal.returns-clause-statuses
returns-clause-statuses c = statuses-are-read-back

pub returns-clause-few : goal.returns-clause-few
returns-clause-few c = few-may-retry
