use Rattle.std.proofs.Common.{◌≡◌, ◌++◌, map, take, drop}
use Rattle.nvme_driver.specs.Drivers.{abort}
use Rattle.nvme_driver.proofs.slots.abort_all.Given as goal

abbrev pub invariant-loop-index : goal.invariant-loop-index
invariant-loop-index l = l.slots ≡ map abort (take l.index l.fn.slots) ++ drop l.index l.fn.slots
