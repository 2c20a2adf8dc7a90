use Rattle.std.proofs.Common.{◌≡◌, [], take, drop}
use Rattle.nvme_ns.specs.Configured.{configuration}
use Rattle.nvme_ns.specs.declared.refusal.SetupLine.TheVariants.{Attached}
use Rattle.nvme_ns.specs.Refusals.{first_line, attachment_breaks}
use Rattle.nvme_ns.proofs.refusal.bad_attachment.Given as goal

-- the remaining lines decide
abbrev pub invariant-loop-i : goal.invariant-loop-i
invariant-loop-i l =
    first_line Attached (attachment_breaks (configuration l.config)) (take l.i l.attached) (drop l.i l.attached)
    ≡ first_line Attached (attachment_breaks (configuration l.config)) [] l.config.attached.items
