use Rattle.nvme_fabrics.proofs.OwnHosts.{admitted-host, proved-host, given-hosts}
use Rattle.nvme_fabrics.proofs.laws.hosts_before_queues.Goals as goal

pub returns-clause-admitted : goal.returns-clause-admitted
returns-clause-admitted c = admitted-host

pub returns-clause-proved : goal.returns-clause-proved
returns-clause-proved c = proved-host

pub returns-clause-given : goal.returns-clause-given
returns-clause-given c = given-hosts
