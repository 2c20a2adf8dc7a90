use Rattle.nvme_host.proofs.Actions.{placing_records_its_stores}
use Rattle.nvme_host.proofs.laws.actions.Goals as goal

pub returns : goal.returns
returns c = placing_records_its_stores
