use Rattle.nvme_host.proofs.Naming.{answers_name_their_requests}
use Rattle.nvme_host.proofs.laws.answers.Goals as goal

pub returns : goal.returns
returns c = answers_name_their_requests
