use Rattle.nvme_host.proofs.MadeCalls.{bytes_kept, stored_gives, stored_kept}
use Rattle.nvme_host.proofs.examples.made_calls.stored_completions.Goals as goal

pub returns-clause-gives : goal.returns-clause-gives
returns-clause-gives c = stored_gives

pub returns-clause-made : goal.returns-clause-made
returns-clause-made c = stored_kept

pub returns-clause-bytes : goal.returns-clause-bytes
returns-clause-bytes c = bytes_kept
