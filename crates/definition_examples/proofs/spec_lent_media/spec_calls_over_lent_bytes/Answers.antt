use Rattle.definition_examples.proofs.SpecLent.{
  calls_over_lent_bytes_blocks,
  calls_over_lent_bytes_flush,
  calls_over_lent_bytes_read,
  calls_over_lent_bytes_tail,
  calls_over_lent_bytes_write,
}
use Rattle.definition_examples.proofs.spec_lent_media.spec_calls_over_lent_bytes.Goals as goal

pub returns-clause-read : goal.returns-clause-read
returns-clause-read c = calls_over_lent_bytes_read

pub returns-clause-flush : goal.returns-clause-flush
returns-clause-flush c = calls_over_lent_bytes_flush

pub returns-clause-write : goal.returns-clause-write
returns-clause-write c = calls_over_lent_bytes_write

pub returns-clause-tail : goal.returns-clause-tail
returns-clause-tail c = calls_over_lent_bytes_tail

pub returns-clause-blocks : goal.returns-clause-blocks
returns-clause-blocks c = calls_over_lent_bytes_blocks
