use Rattle.nvme_capsules.proofs.Admission.{only-admitted-are-ready, only-admitted-wait}
use Rattle.nvme_capsules.proofs.laws.only_admitted.Goals as goal

pub returns-clause-ready : goal.returns-clause-ready
returns-clause-ready c = only-admitted-are-ready

pub returns-clause-waits : goal.returns-clause-waits
returns-clause-waits c = only-admitted-wait
