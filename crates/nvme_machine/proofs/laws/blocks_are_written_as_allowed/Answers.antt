use Rattle.nvme_machine.proofs.AllowedCalls.{calls_are_allowed, calls_of_runs_are_allowed}
use Rattle.nvme_machine.proofs.laws.blocks_are_written_as_allowed.Goals as goal

pub returns-clause-event : goal.returns-clause-event
returns-clause-event c = calls_are_allowed

pub returns-clause-run : goal.returns-clause-run
returns-clause-run c = calls_of_runs_are_allowed
