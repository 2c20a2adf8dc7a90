use Rattle.nvme_machine.proofs.Denials.{denied_changes_its_entry_alone}
use Rattle.nvme_machine.proofs.laws.executed_as_the_policy_allows.Goals as goal

pub returns-clause-denied : goal.returns-clause-denied
returns-clause-denied c = denied_changes_its_entry_alone
