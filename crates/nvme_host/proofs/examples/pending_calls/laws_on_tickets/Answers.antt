use Rattle.nvme_host.proofs.PendingCalls.{aborted_is_not_done, aborted_is_not_live, aborted_once, not_aborted_too}
use Rattle.nvme_host.proofs.examples.pending_calls.laws_on_tickets.Goals as goal

pub returns-clause-answered : goal.returns-clause-answered
returns-clause-answered c = not_aborted_too

pub returns-clause-not_done : goal.returns-clause-not_done
returns-clause-not_done c = aborted_is_not_done

pub returns-clause-once : goal.returns-clause-once
returns-clause-once c = aborted_once

pub returns-clause-not_live : goal.returns-clause-not_live
returns-clause-not_live c = aborted_is_not_live
