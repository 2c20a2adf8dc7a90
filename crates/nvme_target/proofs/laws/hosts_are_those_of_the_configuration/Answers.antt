use Rattle.nvme_target.proofs.Openings.{opening_has_its_hosts}
use Rattle.nvme_target.proofs.Wire.{hosts_stay}
use Rattle.nvme_target.proofs.laws.hosts_are_those_of_the_configuration.Goals as goal

pub returns-clause-opening : goal.returns-clause-opening
returns-clause-opening c = opening_has_its_hosts

pub returns-clause-stays : goal.returns-clause-stays
returns-clause-stays c = hosts_stay
