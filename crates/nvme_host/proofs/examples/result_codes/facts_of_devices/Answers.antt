use Rattle.nvme_host.proofs.KnownFacts.{controller_unknown, namespace_unknown, question_noted}
use Rattle.nvme_host.proofs.examples.result_codes.facts_of_devices.Goals as goal

pub returns-clause-controller : goal.returns-clause-controller
returns-clause-controller c = controller_unknown

pub returns-clause-namespace : goal.returns-clause-namespace
returns-clause-namespace c = namespace_unknown

pub returns-clause-question : goal.returns-clause-question
returns-clause-question c = question_noted
