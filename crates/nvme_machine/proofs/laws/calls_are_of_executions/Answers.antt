use Rattle.nvme_machine.proofs.Calling.{calls_are_of_an_execution, denied_makes_no_call, admin_makes_no_call}
use Rattle.nvme_machine.proofs.laws.calls_are_of_executions.Goals as goal

pub returns-clause-execution : goal.returns-clause-execution
returns-clause-execution c = calls_are_of_an_execution

pub returns-clause-denied : goal.returns-clause-denied
returns-clause-denied c = denied_makes_no_call

pub returns-clause-admin : goal.returns-clause-admin
returns-clause-admin c = admin_makes_no_call
