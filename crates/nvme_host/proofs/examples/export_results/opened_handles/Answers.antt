use Rattle.nvme_host.proofs.ExportResults.{driver_opened, memory_refused, open_already, open_stays, opened_is_zero}
use Rattle.nvme_host.proofs.examples.export_results.opened_handles.Goals as goal

pub returns-clause-no_memory : goal.returns-clause-no_memory
returns-clause-no_memory c = memory_refused

pub returns-clause-opened : goal.returns-clause-opened
returns-clause-opened c = driver_opened

pub returns-clause-opened_code : goal.returns-clause-opened_code
returns-clause-opened_code c = opened_is_zero

pub returns-clause-open : goal.returns-clause-open
returns-clause-open c = open_already

pub returns-clause-not_closed : goal.returns-clause-not_closed
returns-clause-not_closed c = open_stays
