use Rattle.nvme_spec.proofs.CallLaws.{passing_calls_exist}
use Rattle.nvme_spec.proofs.laws.calls.calls_are_determined.Goals as goal

pub returns-clause-passing : goal.returns-clause-passing
returns-clause-passing c = passing_calls_exist
