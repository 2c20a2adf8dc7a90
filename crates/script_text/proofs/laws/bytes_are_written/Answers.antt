use Rattle.script_text.proofs.StreamLaws.{bytes-are-taken, bytes-can-be-written}
use Rattle.script_text.proofs.laws.bytes_are_written.Goals as goal

pub returns-clause-taken : goal.returns-clause-taken
returns-clause-taken c = bytes-are-taken

pub returns-clause-possible : goal.returns-clause-possible
returns-clause-possible c = bytes-can-be-written
