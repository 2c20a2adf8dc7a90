use Rattle.std.proofs.Common.{◌≡◌, ◌≤◌, ◌++◌, drop, length, map, take}
use Rattle.nvme_library.specs.Given.{given_controller}
use Rattle.nvme_library.proofs.configuration.put_controllers.Given as goal

abbrev pub invariant-loop-i : goal.invariant-loop-i
invariant-loop-i l = l.controllers ≡ map given_controller (take l.i l.configs) ++ drop l.i l.initial.controllers
