use Rattle.nvme_responses.proofs.Waiting.{room-is-given, none-beyond, at-most-64, conflicts-are-found}
use Rattle.nvme_responses.proofs.laws.queue_size.Goals as goal

pub returns-clause-room : goal.returns-clause-room
returns-clause-room c = room-is-given

pub returns-clause-beyond : goal.returns-clause-beyond
returns-clause-beyond c = none-beyond

pub returns-clause-limit : goal.returns-clause-limit
returns-clause-limit c = at-most-64

pub returns-clause-conflicts : goal.returns-clause-conflicts
returns-clause-conflicts c = conflicts-are-found
