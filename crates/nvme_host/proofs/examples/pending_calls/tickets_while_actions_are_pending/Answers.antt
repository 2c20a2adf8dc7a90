use Rattle.nvme_host.proofs.PendingCalls.{
  no_asking,
  no_commanding,
  no_identifying,
  no_placing,
  no_polling,
  no_ringing_used,
  no_ticket_shown,
}
use Rattle.nvme_host.proofs.examples.pending_calls.tickets_while_actions_are_pending.Goals as goal

pub returns-clause-places : goal.returns-clause-places
returns-clause-places c = no_placing

pub returns-clause-identifies : goal.returns-clause-identifies
returns-clause-identifies c = no_identifying

pub returns-clause-commands : goal.returns-clause-commands
returns-clause-commands c = no_commanding

pub returns-clause-asks : goal.returns-clause-asks
returns-clause-asks c = no_asking

pub returns-clause-polls : goal.returns-clause-polls
returns-clause-polls c = no_polling

pub returns-clause-rings : goal.returns-clause-rings
returns-clause-rings c = no_ringing_used

pub returns-clause-no_ticket : goal.returns-clause-no_ticket
returns-clause-no_ticket c = no_ticket_shown
