use Rattle.definition_examples.proofs.SpecBrought.{brought_writes_bytes, brought_writes_failures}
use Rattle.definition_examples.proofs.spec_brought_media.spec_brought_writes.Goals as goal

pub returns-clause-bytes : goal.returns-clause-bytes
returns-clause-bytes c = brought_writes_bytes

pub returns-clause-failures : goal.returns-clause-failures
returns-clause-failures c = brought_writes_failures
