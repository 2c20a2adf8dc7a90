use Rattle.std.proofs.Common.{◌≡◌, take, map}
use Rattle.nvme_library.specs.Given.{controller_of}
use Rattle.nvme_library.proofs.configuration.controller_configs.Given as goal

abbrev pub invariant-loop-controller : goal.invariant-loop-controller
invariant-loop-controller l = l.configs.items ≡ map controller_of (take l.controller-index l.controllers)
