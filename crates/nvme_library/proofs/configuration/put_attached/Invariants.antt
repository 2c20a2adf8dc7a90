use Rattle.std.proofs.Common.{◌≡◌, ◌≤◌, ◌++◌, drop, length, map, take}
use Rattle.nvme_library.specs.Given.{given_pair}
use Rattle.nvme_library.proofs.configuration.put_attached.Given as goal

abbrev pub invariant-loop-i : goal.invariant-loop-i
invariant-loop-i l = l.attached ≡ map given_pair (take l.i l.pairs) ++ drop l.i l.initial.attached
