use Rattle.definition_examples.proofs.SpecLent.{
  reads_first,
  reads_flush,
  reads_nothing,
  reads_read,
  reads_second,
  reads_write,
}
use Rattle.definition_examples.proofs.spec_lent_media.spec_reads.Goals as goal

pub returns-clause-read : goal.returns-clause-read
returns-clause-read c = reads_read

pub returns-clause-write : goal.returns-clause-write
returns-clause-write c = reads_write

pub returns-clause-flush : goal.returns-clause-flush
returns-clause-flush c = reads_flush

pub returns-clause-nothing : goal.returns-clause-nothing
returns-clause-nothing c = reads_nothing

pub returns-clause-first : goal.returns-clause-first
returns-clause-first c = reads_first

pub returns-clause-second : goal.returns-clause-second
returns-clause-second c = reads_second
