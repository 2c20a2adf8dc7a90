use Rattle.nvme_target.proofs.Wire.{fencing_holds_over_the_wire, secrecy_holds_over_the_wire}
use Rattle.nvme_target.proofs.laws.fencing_holds_over_the_wire.Goals as goal

pub returns-clause-writes : goal.returns-clause-writes
returns-clause-writes c = fencing_holds_over_the_wire

pub returns-clause-reads : goal.returns-clause-reads
returns-clause-reads c = secrecy_holds_over_the_wire
