use Rattle.nvme_theorem_runs.proofs.OwnDataRuns as runs
use Rattle.nvme_theorem_runs.proofs.own_data.reads_return_the_block.Goals as goal

-- src/own_data.rt:15:1
pub returns : goal.returns
returns c = runs.reading_at_work
