use Rattle.script_text.proofs.StreamLaws.{text-has-come, reading-is-determined, text-can-be-read, known-text-is-read}
use Rattle.script_text.proofs.laws.text_is_read.Goals as goal

pub returns-clause-come : goal.returns-clause-come
returns-clause-come c = text-has-come

pub returns-clause-determined : goal.returns-clause-determined
returns-clause-determined c = reading-is-determined

pub returns-clause-possible : goal.returns-clause-possible
returns-clause-possible c = text-can-be-read

pub returns-clause-known : goal.returns-clause-known
returns-clause-known c = known-text-is-read
