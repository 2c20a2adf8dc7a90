use Rattle.nvme_notices.proofs.Recounting.{last_of_kept_written}
use Rattle.nvme_notices.proofs.kept.recount.Goals as goal

pub returns : goal.returns
returns c =
    last_of_kept_written c.args.places.now (record { count = 0; nsid = 0; kind = 0 }) c.args.count c.told-places
