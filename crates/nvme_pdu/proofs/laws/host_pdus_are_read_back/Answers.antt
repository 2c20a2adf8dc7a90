use Rattle.nvme_pdu.proofs.HostPdus.{requests_are_read, terminations_are_read, commands_are_read, host_data_are_read}
use Rattle.nvme_pdu.proofs.laws.host_pdus_are_read_back.Goals as goal

pub returns-clause-requests : goal.returns-clause-requests
returns-clause-requests c = requests_are_read

pub returns-clause-terminations : goal.returns-clause-terminations
returns-clause-terminations c = terminations_are_read

pub returns-clause-commands : goal.returns-clause-commands
returns-clause-commands c = commands_are_read

pub returns-clause-host_data : goal.returns-clause-host_data
returns-clause-host_data c = host_data_are_read
