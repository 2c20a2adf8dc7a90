use Rattle.nvme_journal.proofs.Again.{io_records_succeed_again}
use Rattle.nvme_journal.proofs.AdminAgain.{admin_records_succeed_again}
use Rattle.nvme_journal.proofs.laws.records_succeed_again.Goals as goal

pub returns-clause-io : goal.returns-clause-io
returns-clause-io c = io_records_succeed_again

pub returns-clause-admin : goal.returns-clause-admin
returns-clause-admin c = admin_records_succeed_again
