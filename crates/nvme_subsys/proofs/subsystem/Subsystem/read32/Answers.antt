use Rattle.nvme_machine.specs.Bare.{seen_of}
use Rattle.nvme_machine.specs.Controllers.{has_read}
use Rattle.nvme_subsys.proofs.Numbers.{reacts-still, found-at}
use Rattle.nvme_subsys.proofs.OverMedium.{state-is}
use Rattle.nvme_subsys.proofs.subsystem.Subsystem.read32.Goals as goal

pub returns : goal.returns
returns g c =
    let items = c.self.inside.controllers.items in
    let found = found-at _ _ items c.args.self.now.state c.in-Some.index c.index.result.now
    (state-is c.self.view_is) c.in-Some.ensures.some.1 c.index.ensures in
    rw (← c.self.view_is)
    (reacts-still
    (record { world = c.self.inside.spaces; device = g.M.Medium.device c.self.inside.medium; controllers = items })
    c.args.cntlid c.in-Some.index c.index.result.now
    (has_read c.args.offset) (seen_of c.read32.result) c.in-Some.ensures.some.0 found c.read32.ensures)
