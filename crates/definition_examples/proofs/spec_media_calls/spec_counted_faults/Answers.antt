use Rattle.definition_examples.proofs.SpecCalls.{count_rises, count_stays}
use Rattle.definition_examples.proofs.spec_media_calls.spec_counted_faults.Goals as goal

pub returns-clause-done : goal.returns-clause-done
returns-clause-done c = count_stays

pub returns-clause-failed : goal.returns-clause-failed
returns-clause-failed c = count_rises
