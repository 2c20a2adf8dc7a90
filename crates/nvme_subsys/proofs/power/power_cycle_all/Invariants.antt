use Rattle.std.proofs.Common.{◌≡◌, ◌++◌, map, take, drop}
use Rattle.nvme_machine.specs.Controllers.{power_cycled}
use Rattle.nvme_subsys.proofs.power.power_cycle_all.Given as goal

-- the controllers before i have gone through the power cycle
abbrev pub invariant-loop-i : goal.invariant-loop-i
invariant-loop-i l = l.controllers ≡ map power_cycled (take l.i l.initial.controllers) ++ drop l.i l.initial.controllers
