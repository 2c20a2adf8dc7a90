use Rattle.definition_examples.proofs.SpecCached.{no_success, unchanged}
use Rattle.definition_examples.proofs.spec_cached_media.spec_failing_calls.Goals as goal

pub returns-clause-no_success : goal.returns-clause-no_success
returns-clause-no_success c = no_success

pub returns-clause-unchanged : goal.returns-clause-unchanged
returns-clause-unchanged c = unchanged
