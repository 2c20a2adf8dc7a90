use Rattle.nvme_wire.proofs.Made.{submission_is_read_back, submission_is_plain, completion_is_read_back}
use Rattle.nvme_wire.proofs.laws.entries_are_read_back.Goals as goal

pub returns-clause-submission : goal.returns-clause-submission
returns-clause-submission c = submission_is_read_back

pub returns-clause-plain : goal.returns-clause-plain
returns-clause-plain c = submission_is_plain

pub returns-clause-completion : goal.returns-clause-completion
returns-clause-completion c = completion_is_read_back
