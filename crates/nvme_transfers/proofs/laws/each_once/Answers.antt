use Rattle.nvme_transfers.proofs.Flights.{commands-once}
use Rattle.nvme_transfers.proofs.PartsOnce.{parts-once}
use Rattle.nvme_transfers.proofs.laws.each_once.Goals as goal

pub returns-clause-parts : goal.returns-clause-parts
returns-clause-parts c = parts-once

pub returns-clause-commands : goal.returns-clause-commands
returns-clause-commands c = commands-once
