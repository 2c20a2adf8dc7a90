use Rattle.nvme_journal.proofs.Alike.{matching_records_carry_alike}
use Rattle.nvme_journal.proofs.laws.matching_records_carry_alike.Goals as goal

pub returns : goal.returns
returns c = matching_records_carry_alike
