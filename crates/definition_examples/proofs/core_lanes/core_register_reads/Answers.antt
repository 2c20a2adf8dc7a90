use Rattle.definition_examples.proofs.CoreLanes.{core_register_reads_value, core_register_reads_unchanged}
use Rattle.definition_examples.proofs.core_lanes.core_register_reads.Goals as goal

pub returns-clause-value : goal.returns-clause-value
returns-clause-value c = core_register_reads_value

pub returns-clause-unchanged : goal.returns-clause-unchanged
returns-clause-unchanged c = core_register_reads_unchanged
