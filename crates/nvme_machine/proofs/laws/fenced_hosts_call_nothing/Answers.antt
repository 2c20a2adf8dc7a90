use Rattle.nvme_machine.proofs.FencedCalls.{fenced_commands_call_nothing, fenced_hosts_write_no_block}
use Rattle.nvme_machine.proofs.laws.fenced_hosts_call_nothing.Goals as goal

pub returns-clause-command : goal.returns-clause-command
returns-clause-command c = fenced_commands_call_nothing

pub returns-clause-run : goal.returns-clause-run
returns-clause-run c = fenced_hosts_write_no_block
