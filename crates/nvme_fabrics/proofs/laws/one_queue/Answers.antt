use Rattle.nvme_fabrics.proofs.RunLaws.{one-queue, is-live, is-named}
use Rattle.nvme_fabrics.proofs.laws.one_queue.Goals as goal

pub returns-clause-queues : goal.returns-clause-queues
returns-clause-queues c = one-queue

pub returns-clause-live : goal.returns-clause-live
returns-clause-live c = is-live

pub returns-clause-named : goal.returns-clause-named
returns-clause-named c = is-named
