use Rattle.nvme_library.proofs.CallExamples.{flushes_over_a_disk}
use Rattle.nvme_library.proofs.examples.calls_are_made.Goals as goal

pub returns-clause-disk : goal.returns-clause-disk
returns-clause-disk c = flushes_over_a_disk
