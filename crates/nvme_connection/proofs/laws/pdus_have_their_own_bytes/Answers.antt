use Rattle.nvme_connection.proofs.Data.{data-laid}
use Rattle.nvme_connection.proofs.Reading.{commands_keep_their_bytes}
use Rattle.nvme_connection.proofs.Streams.{ends}
use Rattle.nvme_connection.proofs.laws.pdus_have_their_own_bytes.Goals as goal

pub returns-clause-commands : goal.returns-clause-commands
returns-clause-commands c = commands_keep_their_bytes

pub returns-clause-ended : goal.returns-clause-ended
returns-clause-ended c = ends

pub returns-clause-taken : goal.returns-clause-taken
returns-clause-taken c = λ d unit l u. data-laid d.agreed unit l u.common u.is
