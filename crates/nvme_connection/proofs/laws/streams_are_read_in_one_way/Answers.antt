use Rattle.nvme_connection.proofs.Reading.{readings_are_one, streams_are_read}
use Rattle.nvme_connection.proofs.laws.streams_are_read_in_one_way.Goals as goal

pub returns-clause-exists : goal.returns-clause-exists
returns-clause-exists c = streams_are_read

pub returns-clause-unique : goal.returns-clause-unique
returns-clause-unique c = readings_are_one
