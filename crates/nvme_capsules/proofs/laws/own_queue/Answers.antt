use Rattle.nvme_capsules.proofs.Queues.{admin-queue-is-own, io-queue-is-own}
use Rattle.nvme_capsules.proofs.laws.own_queue.Goals as goal

pub returns-clause-admin : goal.returns-clause-admin
returns-clause-admin c = admin-queue-is-own

pub returns-clause-io : goal.returns-clause-io
returns-clause-io c = io-queue-is-own
