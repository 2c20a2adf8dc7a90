use Rattle.definition_examples.proofs.SpecCached.{other_block_is_not, other_bytes_are_not, write_is_cached}
use Rattle.definition_examples.proofs.spec_cached_media.spec_cached_writes.Goals as goal

pub returns-clause-cached : goal.returns-clause-cached
returns-clause-cached c = write_is_cached

pub returns-clause-other_block : goal.returns-clause-other_block
returns-clause-other_block c = other_block_is_not

pub returns-clause-other_bytes : goal.returns-clause-other_bytes
returns-clause-other_bytes c = other_bytes_are_not
