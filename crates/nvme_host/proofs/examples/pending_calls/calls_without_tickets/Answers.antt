use Rattle.nvme_host.proofs.PendingCalls.{checks_none, judges_none, reports_to_port, takes_of_port}
use Rattle.nvme_host.proofs.examples.pending_calls.calls_without_tickets.Goals as goal

pub returns-clause-judges : goal.returns-clause-judges
returns-clause-judges c = judges_none

pub returns-clause-checks_status : goal.returns-clause-checks_status
returns-clause-checks_status c = checks_none

pub returns-clause-reports : goal.returns-clause-reports
returns-clause-reports c = reports_to_port

pub returns-clause-takes : goal.returns-clause-takes
returns-clause-takes c = takes_of_port
