use Rattle.nvme_mailbox.proofs.Unseen.{unseen_never_comes}
use Rattle.nvme_mailbox.proofs.laws.trouble_never_comes.Goals as goal

pub returns : goal.returns
returns c = record { unseen = unseen_never_comes }
