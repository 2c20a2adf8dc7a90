use Rattle.std.proofs.Common.{◌≡◌, ◌++◌, map, take, drop}
use Rattle.nvme_machine.specs.Controllers.{with_mark}
use Rattle.nvme_ctrl.proofs.marking.mark_all.Given as goal

-- the commands before i are marked
abbrev pub invariant-loop-i : goal.invariant-loop-i
invariant-loop-i l = l.commands ≡ map (with_mark l.nsid) (take l.i l.initial.commands) ++ drop l.i l.initial.commands
