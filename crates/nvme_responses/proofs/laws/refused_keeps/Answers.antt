use Rattle.nvme_responses.proofs.Ending.{
  refused-keeps,
  no-answer-keeps,
  nothing-dropped-keeps,
  end-is-final,
  stop-is-final,
}
use Rattle.nvme_responses.proofs.laws.refused_keeps.Goals as goal

pub returns-clause-commands : goal.returns-clause-commands
returns-clause-commands c = refused-keeps

pub returns-clause-answers : goal.returns-clause-answers
returns-clause-answers c = no-answer-keeps

pub returns-clause-drops : goal.returns-clause-drops
returns-clause-drops c = nothing-dropped-keeps

pub returns-clause-end : goal.returns-clause-end
returns-clause-end c = end-is-final

pub returns-clause-stop : goal.returns-clause-stop
returns-clause-stop c = stop-is-final
