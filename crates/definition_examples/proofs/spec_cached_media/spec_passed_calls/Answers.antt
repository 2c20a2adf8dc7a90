use Rattle.definition_examples.proofs.SpecCached.{counted, passed, skipped}
use Rattle.definition_examples.proofs.spec_cached_media.spec_passed_calls.Goals as goal

pub returns-clause-counted : goal.returns-clause-counted
returns-clause-counted c = counted

pub returns-clause-skipped : goal.returns-clause-skipped
returns-clause-skipped c = skipped

pub returns-clause-passed : goal.returns-clause-passed
returns-clause-passed c = passed
