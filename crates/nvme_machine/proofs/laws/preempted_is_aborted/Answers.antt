use Rattle.nvme_machine.proofs.Marking.{marked_is_aborted}
use Rattle.nvme_machine.proofs.laws.preempted_is_aborted.Goals as goal

pub returns-clause-aborts : goal.returns-clause-aborts
returns-clause-aborts c = marked_is_aborted
