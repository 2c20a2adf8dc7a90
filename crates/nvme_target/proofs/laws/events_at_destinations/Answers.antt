use Rattle.nvme_target.proofs.Destinations.{destinations-are-of-named-hosts, destinations-may-cause}
use Rattle.nvme_target.proofs.laws.events_at_destinations.Goals as goal

pub returns-clause-causes : goal.returns-clause-causes
returns-clause-causes c = destinations-may-cause

pub returns-clause-hosts : goal.returns-clause-hosts
returns-clause-hosts c = destinations-are-of-named-hosts
