use Rattle.std.proofs.Common.{◌≡◌, take, map}
use Rattle.nvme_spec.specs.World.{controller_host}
use Rattle.nvme_ns.proofs.opening.controller_table.Given as goal

abbrev pub invariant-loop-controller : goal.invariant-loop-controller
invariant-loop-controller l = l.table.items ≡ map controller_host (take l.controller-index l.controllers)
