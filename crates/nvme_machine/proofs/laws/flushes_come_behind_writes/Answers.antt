use Rattle.nvme_machine.proofs.FencedCalls.{flush_reaches_the_medium, calls_are_in_order}
use Rattle.nvme_machine.proofs.laws.flushes_come_behind_writes.Goals as goal

pub returns-clause-flush : goal.returns-clause-flush
returns-clause-flush c = flush_reaches_the_medium

pub returns-clause-order : goal.returns-clause-order
returns-clause-order c = calls_are_in_order
