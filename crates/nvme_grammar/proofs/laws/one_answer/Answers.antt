use Rattle.nvme_grammar.proofs.LawLemmas.{exclusive, unique}
use Rattle.nvme_grammar.proofs.laws.one_answer.Goals as goal

pub returns-clause-exclusive : goal.returns-clause-exclusive
returns-clause-exclusive c = exclusive

pub returns-clause-unique : goal.returns-clause-unique
returns-clause-unique c = unique
