use Rattle.nvme_machine.proofs.Posted.{posted_is_unread, unread_stands, unread_stands_over_runs}
use Rattle.nvme_machine.proofs.laws.completions_stand.Goals as goal

pub returns-clause-posted : goal.returns-clause-posted
returns-clause-posted c = posted_is_unread

pub returns-clause-event : goal.returns-clause-event
returns-clause-event c = unread_stands

pub returns-clause-run : goal.returns-clause-run
returns-clause-run c = unread_stands_over_runs
