use Rattle.nvme_host.proofs.PendingCalls.{no_call_used, one_call_used}
use Rattle.nvme_host.proofs.examples.pending_calls.short_runs.Goals as goal

pub returns-clause-no_call : goal.returns-clause-no_call
returns-clause-no_call c = no_call_used

pub returns-clause-one_call : goal.returns-clause-one_call
returns-clause-one_call c = one_call_used
