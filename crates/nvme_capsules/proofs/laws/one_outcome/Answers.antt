use Rattle.nvme_capsules.proofs.Outcomes.{each-can-be-answered, one-outcome}
use Rattle.nvme_capsules.proofs.laws.one_outcome.Goals as goal

pub returns-clause-each : goal.returns-clause-each
returns-clause-each c = one-outcome

pub returns-clause-answers : goal.returns-clause-answers
returns-clause-answers c = each-can-be-answered
