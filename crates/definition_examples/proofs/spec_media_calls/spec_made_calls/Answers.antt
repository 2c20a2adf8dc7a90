use Rattle.definition_examples.proofs.SpecCalls.{one_flush, one_write}
use Rattle.definition_examples.proofs.spec_media_calls.spec_made_calls.Goals as goal

pub returns-clause-flush : goal.returns-clause-flush
returns-clause-flush c = one_flush

pub returns-clause-write : goal.returns-clause-write
returns-clause-write c = one_write
