use Rattle.std.proofs.Common.{◌≡◌, ◌++◌, take, drop}
use Rattle.nvme_machine.specs.Subsystems.{marked_from}
use Rattle.nvme_subsys.proofs.marking.mark_all.Given as goal

-- those before i are marked
abbrev pub invariant-loop-i : goal.invariant-loop-i
invariant-loop-i l =
    l.controllers ≡ marked_from l.spaces l.marks 1 (take l.i l.initial.controllers) ++ drop l.i l.initial.controllers
