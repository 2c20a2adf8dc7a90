use Rattle.nvme_machine.proofs.FencedCalls.{calls_are_in_order}
use Rattle.nvme_machine.proofs.MixedRuns.{fencing_holds_of_each_event, secrecy_holds_of_each_event}
use Rattle.nvme_machine.proofs.laws.fencing_holds_of_each_event.Goals as goal

pub returns-clause-reached : goal.returns-clause-reached
returns-clause-reached c = calls_are_in_order

pub returns-clause-writes : goal.returns-clause-writes
returns-clause-writes c = fencing_holds_of_each_event

pub returns-clause-reads : goal.returns-clause-reads
returns-clause-reads c = secrecy_holds_of_each_event
