use Rattle.nvme_script.specs.ProgramRuns.{ScriptProgramExits}
use Rattle.nvme_script.proofs.program.run_program.Goals as goal

pub returns-clause-run : goal.returns-clause-run
unfolding ScriptProgramExits
returns-clause-run g c = (_, _, c.run_in.new.system, c.status_of.ensures.table, c.run_in.ensures)
