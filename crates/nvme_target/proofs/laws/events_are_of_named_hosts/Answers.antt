use Rattle.nvme_target.proofs.Owners.{events_are_of_named_hosts}
use Rattle.nvme_target.proofs.laws.events_are_of_named_hosts.Goals as goal

pub returns : goal.returns
returns c = events_are_of_named_hosts
