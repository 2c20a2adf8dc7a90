use Rattle.nvme_tcp_library.proofs.Outcomes.{parts_differ, refusals_differ, requests_differ}
use Rattle.nvme_tcp_library.proofs.laws.outcomes_differ.Goals as goal

pub returns : goal.returns
returns c = record { parts = parts_differ; refusals = refusals_differ; requests = requests_differ }
