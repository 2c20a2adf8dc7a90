use Rattle.nvme_machine.proofs.Windows.{opening_has_its_windows, windows_keep_their_length}
use Rattle.nvme_machine.proofs.laws.windows_keep_their_bytes.Goals as goal

pub returns-clause-opening : goal.returns-clause-opening
returns-clause-opening c = opening_has_its_windows

pub returns-clause-run : goal.returns-clause-run
returns-clause-run c = windows_keep_their_length
