use Rattle.nvme_fleet.proofs.MixedRuns.{each_event_is_reached, fencing_holds_of_each_event, secrecy_holds_of_each_event}
use Rattle.nvme_fleet.proofs.laws.fencing_holds_of_each_event.Goals as goal

pub returns-clause-reached : goal.returns-clause-reached
returns-clause-reached c = each_event_is_reached

pub returns-clause-writes : goal.returns-clause-writes
returns-clause-writes c = fencing_holds_of_each_event

pub returns-clause-reads : goal.returns-clause-reads
returns-clause-reads c = secrecy_holds_of_each_event
