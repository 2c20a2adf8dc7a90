use Rattle.nvme_journal.proofs.Enough.{kept_data_are_enough, kept_lists_are_enough, two_bytes_are_enough}
use Rattle.nvme_journal.proofs.laws.kept_data_are_enough.Goals as goal

pub returns-clause-io : goal.returns-clause-io
returns-clause-io c = kept_data_are_enough

pub returns-clause-lists : goal.returns-clause-lists
returns-clause-lists c = kept_lists_are_enough

pub returns-clause-head : goal.returns-clause-head
returns-clause-head c = two_bytes_are_enough
