use Rattle.nvme_grammar.proofs.LawLemmas.{unstarted}
use Rattle.nvme_grammar.proofs.laws.nothing_before_start.Goals as goal

pub returns : goal.returns
returns c = record { events = unstarted }
