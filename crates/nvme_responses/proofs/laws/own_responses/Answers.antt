use Rattle.nvme_responses.proofs.Waiting.{own-responses, waiting-are-answered}
use Rattle.nvme_responses.proofs.laws.own_responses.Goals as goal

pub returns-clause-own : goal.returns-clause-own
returns-clause-own c = own-responses

pub returns-clause-all : goal.returns-clause-all
returns-clause-all c = waiting-are-answered
