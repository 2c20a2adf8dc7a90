use Rattle.nvme_mailbox.proofs.SinceUp as since
use Rattle.nvme_mailbox.proofs.laws.done_since_it_came_up.Goals as goal

pub returns : goal.returns
returns c = record { clear = since.down_is_clear; done = since.done_since_it_came_up }
