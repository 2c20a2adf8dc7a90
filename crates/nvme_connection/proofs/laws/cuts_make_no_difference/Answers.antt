use Rattle.nvme_connection.proofs.Streams.{calls, framing}
use Rattle.nvme_connection.proofs.laws.cuts_make_no_difference.Goals as goal

pub returns-clause-pieces : goal.returns-clause-pieces
returns-clause-pieces c = framing

pub returns-clause-calls : goal.returns-clause-calls
returns-clause-calls c = calls
