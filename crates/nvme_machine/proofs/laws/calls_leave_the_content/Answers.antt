use Rattle.nvme_machine.proofs.CallLaws.{run_calls_are_computed, run_calls_exist}
use Rattle.nvme_machine.proofs.laws.calls_leave_the_content.Goals as goal

pub returns-clause-run : goal.returns-clause-run
returns-clause-run c = run_calls_are_computed

pub returns-clause-exists : goal.returns-clause-exists
returns-clause-exists c = run_calls_exist
