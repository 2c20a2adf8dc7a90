use Rattle.definition_examples.proofs.SpecBrought.{
  brought_answers_failed,
  brought_answers_flush,
  brought_answers_read,
  brought_answers_write,
}
use Rattle.definition_examples.proofs.spec_brought_media.spec_brought_answers.Goals as goal

pub returns-clause-failed : goal.returns-clause-failed
returns-clause-failed c = brought_answers_failed

pub returns-clause-read : goal.returns-clause-read
returns-clause-read c = brought_answers_read

pub returns-clause-write : goal.returns-clause-write
returns-clause-write c = brought_answers_write

pub returns-clause-flush : goal.returns-clause-flush
returns-clause-flush c = brought_answers_flush
