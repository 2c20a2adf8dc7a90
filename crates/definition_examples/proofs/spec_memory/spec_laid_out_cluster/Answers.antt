use Rattle.definition_examples.proofs.SpecMemory.{cluster_is_laid_out}
use Rattle.definition_examples.proofs.spec_memory.spec_laid_out_cluster.Goals as goal

pub returns : goal.returns
returns c = record { cluster = cluster_is_laid_out }
