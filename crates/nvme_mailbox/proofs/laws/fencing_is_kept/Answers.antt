use Rattle.nvme_mailbox.proofs.Fenced.{only_allowed_actions_reserve, permissions_stay}
use Rattle.nvme_mailbox.proofs.Refused.{fenced_writes_are_denied, fencing_holds}
use Rattle.nvme_mailbox.proofs.laws.fencing_is_kept.Goals as goal

pub returns : goal.returns
returns c = record {
  reserves = only_allowed_actions_reserve;
  permissions = permissions_stay;
  denied = fenced_writes_are_denied;
  run = fencing_holds;
}
