use Rattle.nvme_live.specs.ProgramLives.{SessionProgramExits}
use Rattle.nvme_live.proofs.program.run_program.Goals as goal

pub returns-clause-run : goal.returns-clause-run
unfolding SessionProgramExits
returns-clause-run g c = (_, _, c.run_in.new.system, c.status_of.ensures.table, c.run_in.ensures)
