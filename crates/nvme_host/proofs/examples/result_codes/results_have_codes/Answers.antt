use Rattle.nvme_host.proofs.KnownFacts.{reset_by_itself}
use Rattle.nvme_host.proofs.examples.result_codes.results_have_codes.Goals as goal

pub returns-clause-reset : goal.returns-clause-reset
returns-clause-reset c = reset_by_itself
