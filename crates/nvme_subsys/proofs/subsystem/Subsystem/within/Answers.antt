use Rattle.std.proofs.Common.{ap}
use Rattle.nvme_spec.specs.Configuration.{capacity}
use Rattle.nvme_subsys.specs.OverMedium.{over}
use Rattle.nvme_subsys.proofs.Openings.{sound-opening, opened-so}
use Rattle.nvme_subsys.proofs.subsystem.Subsystem.within.Goals as goal

pub invariant_of-result : goal.invariant_of-result
invariant_of-result g c =
    sound-opening _ (capacity c.args.max_blocks (g.M.Medium.size c.args.medium)) c.in-Ok.spaces
    c.in-Ok-controllers_of.controllers.items c.in-Ok.ensures.opened
    (rw c.blocks-2.ensures at c.in-Ok.ensures.accepted) (rw c.blocks-2.ensures at c.in-Ok.ensures.within)
    (rw c.deref.ensures.value at c.in-Ok-controllers_of.ensures)

pub returns-in-Ok-controllers_of-clause-opened : goal.returns-in-Ok-controllers_of-clause-opened
returns-in-Ok-controllers_of-clause-opened g c =
    ap (λ s. over s c.args.medium)
    (opened-so _ (g.M.Medium.device c.args.medium) c.in-Ok.spaces c.in-Ok-controllers_of.controllers.items
    c.in-Ok.ensures.opened (rw c.deref.ensures.value at c.in-Ok-controllers_of.ensures))
