use Rattle.definition_examples.proofs.CoreNotices.{core_kept_notices_most, core_kept_notices_fewer}
use Rattle.definition_examples.proofs.core_notices.core_kept_notices.Goals as goal

pub returns-clause-most : goal.returns-clause-most
returns-clause-most c = core_kept_notices_most

pub returns-clause-fewer : goal.returns-clause-fewer
returns-clause-fewer c = core_kept_notices_fewer
