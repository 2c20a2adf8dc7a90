use Rattle.definition_examples.proofs.SpecLent.{
  blocks_in_memory_lent_blocks,
  blocks_in_memory_lent_failures,
  blocks_in_memory_lent_whole,
  blocks_in_memory_own_failures,
  blocks_in_memory_own_whole,
}
use Rattle.definition_examples.proofs.spec_lent_media.spec_blocks_in_memory.Goals as goal

pub returns-clause-own_failures : goal.returns-clause-own_failures
returns-clause-own_failures c = blocks_in_memory_own_failures

pub returns-clause-lent_failures : goal.returns-clause-lent_failures
returns-clause-lent_failures c = blocks_in_memory_lent_failures

pub returns-clause-lent_blocks : goal.returns-clause-lent_blocks
returns-clause-lent_blocks c = blocks_in_memory_lent_blocks

pub returns-clause-own_whole : goal.returns-clause-own_whole
returns-clause-own_whole c = blocks_in_memory_own_whole

pub returns-clause-lent_whole : goal.returns-clause-lent_whole
returns-clause-lent_whole c = blocks_in_memory_lent_whole
