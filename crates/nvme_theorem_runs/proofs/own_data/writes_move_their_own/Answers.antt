use Rattle.nvme_theorem_runs.proofs.OwnDataRuns as runs
use Rattle.nvme_theorem_runs.proofs.own_data.writes_move_their_own.Goals as goal

-- src/own_data.rt:10:1
pub returns : goal.returns
returns c = runs.writing_at_work
