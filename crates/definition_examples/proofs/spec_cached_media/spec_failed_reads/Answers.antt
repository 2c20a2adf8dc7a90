use Rattle.definition_examples.proofs.SpecCached.{failed_read_exists}
use Rattle.definition_examples.proofs.spec_cached_media.spec_failed_reads.Goals as goal

pub returns : goal.returns
returns c = record { exists = failed_read_exists }
