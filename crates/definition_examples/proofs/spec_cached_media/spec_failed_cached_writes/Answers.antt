use Rattle.definition_examples.proofs.SpecCached.{failed_write_is_dropped, no_block_is_added, old_block_is_not}
use Rattle.definition_examples.proofs.spec_cached_media.spec_failed_cached_writes.Goals as goal

pub returns-clause-dropped : goal.returns-clause-dropped
returns-clause-dropped c = failed_write_is_dropped

pub returns-clause-kept : goal.returns-clause-kept
returns-clause-kept c = old_block_is_not

pub returns-clause-other_block : goal.returns-clause-other_block
returns-clause-other_block c = no_block_is_added
