use Rattle.nvme_tcp_library.proofs.CapsulesRead.{destinations-differ, live-sessions-serve, outcomes-differ}
use Rattle.nvme_tcp_library.proofs.laws.capsules_differ.Goals as goal

pub returns-clause-outcomes : goal.returns-clause-outcomes
returns-clause-outcomes c = outcomes-differ

pub returns-clause-destinations : goal.returns-clause-destinations
returns-clause-destinations c = destinations-differ

pub returns-clause-sessions : goal.returns-clause-sessions
returns-clause-sessions c = live-sessions-serve
