use Rattle.nvme_pdu.proofs.Wholes.{pdus_come_apart}
use Rattle.nvme_pdu.proofs.laws.pdus_come_apart.Goals as goal

pub returns : goal.returns
returns c = pdus_come_apart
