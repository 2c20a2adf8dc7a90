use Rattle.nvme_host.proofs.PendingCalls.{
  no_bringing,
  no_bytes,
  no_completion,
  no_expiring,
  no_resetting,
  no_ringing,
  no_shutting,
}
use Rattle.nvme_host.proofs.examples.pending_calls.calls_while_actions_are_pending.Goals as goal

pub returns-clause-rings : goal.returns-clause-rings
returns-clause-rings c = no_ringing

pub returns-clause-resets : goal.returns-clause-resets
returns-clause-resets c = no_resetting

pub returns-clause-shuts_down : goal.returns-clause-shuts_down
returns-clause-shuts_down c = no_shutting

pub returns-clause-expires : goal.returns-clause-expires
returns-clause-expires c = no_expiring

pub returns-clause-brings_up : goal.returns-clause-brings_up
returns-clause-brings_up c = no_bringing

pub returns-clause-stores_completion : goal.returns-clause-stores_completion
returns-clause-stores_completion c = no_completion

pub returns-clause-stores_bytes : goal.returns-clause-stores_bytes
returns-clause-stores_bytes c = no_bytes
