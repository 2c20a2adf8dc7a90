use Rattle.definition_examples.proofs.CoreTargets.{core_nameless_causes_access, core_nameless_causes_power}
use Rattle.definition_examples.proofs.core_targets.core_nameless_causes.Goals as goal

pub returns-clause-access : goal.returns-clause-access
returns-clause-access c = core_nameless_causes_access

pub returns-clause-power : goal.returns-clause-power
returns-clause-power c = core_nameless_causes_power
