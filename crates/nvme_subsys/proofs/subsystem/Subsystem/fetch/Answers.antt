use Rattle.std.proofs.Common.{◌∙◌, sym, ap}
use Rattle.nvme_machine.specs.Bare.{seen_of}
use Rattle.nvme_machine.specs.Controllers.{Reaction, after_fetch}
use Rattle.nvme_subsys.proofs.Numbers.{reacts, found-at}
use Rattle.nvme_machine.proofs.Numbers.{fetch-id}
use Rattle.nvme_subsys.proofs.Sound.{sound-set}
use Rattle.nvme_subsys.proofs.OverMedium.{state-is}
use Rattle.nvme_subsys.proofs.subsystem.Subsystem.fetch.Goals as goal

pub invariant_of-self : goal.invariant_of-self
invariant_of-self g c =
    let items = c.self.inside.controllers.items in
    let found = found-at _ _ items c.args.self.now.state c.in-Some.index c.index_mut.result.now
    (state-is c.self.view_is) c.in-Some.ensures.some.1 c.index_mut.ensures.value in
    sound-set _ _ items c.in-Some.index c.index_mut.result.now c.fetch.new.controller found
    (ap (λ (r : Reaction). r.controller.cntlid) (sym c.fetch.ensures) ∙ fetch-id c.args.qid c.index_mut.result.now)
    c.self.invariant

pub returns-clause-reacts : goal.returns-clause-reacts
returns-clause-reacts g c =
    let items = c.self.inside.controllers.items in
    let found = found-at _ _ items c.args.self.now.state c.in-Some.index c.index_mut.result.now
    (state-is c.self.view_is) c.in-Some.ensures.some.1 c.index_mut.ensures.value in
    rw (← c.self.view_is)
    (reacts
    (record { world = c.self.inside.spaces; device = g.M.Medium.device c.self.inside.medium; controllers = items })
    c.args.cntlid c.in-Some.index c.index_mut.result.now c.fetch.new.controller
    (after_fetch c.args.qid) (seen_of c.fetch.result) c.in-Some.ensures.some.0 found c.fetch.ensures)
