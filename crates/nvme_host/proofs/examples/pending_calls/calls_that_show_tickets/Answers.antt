use Rattle.nvme_host.proofs.PendingCalls.{asks_shows, commands_shows, identifies_shows, places_shows, polls_shows}
use Rattle.nvme_host.proofs.examples.pending_calls.calls_that_show_tickets.Goals as goal

pub returns-clause-places : goal.returns-clause-places
returns-clause-places c = places_shows

pub returns-clause-identifies : goal.returns-clause-identifies
returns-clause-identifies c = identifies_shows

pub returns-clause-commands : goal.returns-clause-commands
returns-clause-commands c = commands_shows

pub returns-clause-asks : goal.returns-clause-asks
returns-clause-asks c = asks_shows

pub returns-clause-polls : goal.returns-clause-polls
returns-clause-polls c = polls_shows
