use Rattle.nvme_spec.proofs.Reporting.{length-report_data, rising-reported}
use Rattle.nvme_spec.proofs.laws.reservations.reports.Goals as goal

pub returns-clause-size : goal.returns-clause-size
returns-clause-size c = length-report_data

pub returns-clause-rising : goal.returns-clause-rising
returns-clause-rising c = rising-reported
