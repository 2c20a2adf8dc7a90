use Rattle.nvme_subsys.proofs.Numbers.{at-place, found-at}
use Rattle.nvme_subsys.proofs.Sound.{named-at}
use Rattle.nvme_subsys.proofs.OverMedium.{state-is}
use Rattle.nvme_subsys.proofs.subsystem.Subsystem.controller.Goals as goal

pub returns-clause-some : goal.returns-clause-some
returns-clause-some g c =
    let items = c.self.inside.controllers.items in
    let found = found-at _ _ items c.args.self.now.state c.in-Some.index c.index.result.now
    (state-is c.self.view_is) c.in-Some.ensures.some.1 c.index.ensures in
    rw (← c.self.view_is)
    (at-place
    (record { world = c.self.inside.spaces; device = g.M.Medium.device c.self.inside.medium; controllers = items })
    c.args.cntlid c.in-Some.index c.index.result.now c.in-Some.ensures.some.0 found)

pub returns-clause-named : goal.returns-clause-named
returns-clause-named g c =
    let items = c.self.inside.controllers.items in
    let found = found-at _ _ items c.args.self.now.state c.in-Some.index c.index.result.now
    (state-is c.self.view_is) c.in-Some.ensures.some.1 c.index.ensures in
    named-at _ _ items c.args.cntlid c.in-Some.index c.index.result.now c.in-Some.ensures.some.0 found c.self.invariant
