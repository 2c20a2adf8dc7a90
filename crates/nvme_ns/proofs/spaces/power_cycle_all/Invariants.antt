use Rattle.std.proofs.Common.{◌≡◌, ◌++◌, map, take, drop}
use Rattle.nvme_spec.specs.Power.{cycled_namespace}
use Rattle.nvme_ns.proofs.spaces.power_cycle_all.Given as goal

-- the namespaces before i have gone through the power cycle
abbrev pub invariant-loop-i : goal.invariant-loop-i
invariant-loop-i l =
    l.namespaces ≡ map cycled_namespace (take l.i l.initial.namespaces) ++ drop l.i l.initial.namespaces
