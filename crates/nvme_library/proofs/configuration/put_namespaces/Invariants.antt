use Rattle.std.proofs.Common.{◌≡◌, ◌≤◌, ◌++◌, drop, length, map, take}
use Rattle.nvme_library.specs.Given.{given_namespace}
use Rattle.nvme_library.proofs.configuration.put_namespaces.Given as goal

abbrev pub invariant-loop-i : goal.invariant-loop-i
invariant-loop-i l = l.namespaces ≡ map given_namespace (take l.i l.configs) ++ drop l.i l.initial.namespaces
