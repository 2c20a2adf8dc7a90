use Rattle.nvme_fleet.proofs.AllowedCalls.{fenced_commands_call_nothing}
use Rattle.nvme_fleet.proofs.laws.blocks_are_written_as_allowed.Goals as goal

pub returns-clause-command : goal.returns-clause-command
returns-clause-command c = fenced_commands_call_nothing
