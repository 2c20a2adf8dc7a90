use Rattle.std.proofs.Common.{◌≡◌, [], take, drop}
use Rattle.nvme_ns.specs.declared.refusal.SetupLine.TheVariants.{Controller}
use Rattle.nvme_ns.specs.Refusals.{first_line, controller_breaks}
use Rattle.nvme_ns.proofs.refusal.bad_controller.Given as goal

-- the remaining lines decide
abbrev pub invariant-loop-i : goal.invariant-loop-i
invariant-loop-i l = first_line Controller controller_breaks (take l.i l.controllers) (drop l.i l.controllers)
    ≡ first_line Controller controller_breaks [] l.controllers
