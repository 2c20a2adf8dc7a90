use Rattle.nvme_lines.proofs.ReadBack.{lines_are_read_back}
use Rattle.nvme_lines.proofs.Readings.{lines_fit, reading_is_written}
use Rattle.nvme_lines.proofs.laws.lines_are_read_back.Goals as goal

pub returns-clause-back : goal.returns-clause-back
returns-clause-back c = lines_are_read_back

pub returns-clause-fit : goal.returns-clause-fit
returns-clause-fit c = lines_fit

pub returns-clause-same : goal.returns-clause-same
returns-clause-same c = reading_is_written
