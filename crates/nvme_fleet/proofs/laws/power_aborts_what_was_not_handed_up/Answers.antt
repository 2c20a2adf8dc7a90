use Rattle.nvme_mailbox.proofs.PowerCycles as mailbox
use Rattle.nvme_fleet.proofs.PowerCycles as power
use Rattle.nvme_fleet.proofs.laws.power_aborts_what_was_not_handed_up.Goals as goal

pub returns : goal.returns
returns c = record { takes = power.power_takes; aborts = mailbox.power_aborts; done = mailbox.done_since_power }
