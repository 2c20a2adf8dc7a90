use Rattle.std.proofs.Common.{◌∙◌, sym, ap}
use Rattle.nvme_machine.specs.Bare.{seen_of}
use Rattle.nvme_machine.specs.Controllers.{Reaction, after_store}
use Rattle.nvme_subsys.proofs.Numbers.{reacts, found-at}
use Rattle.nvme_machine.proofs.Numbers.{store-id}
use Rattle.nvme_subsys.proofs.Sound.{sound-set}
use Rattle.nvme_subsys.proofs.OverMedium.{state-is}
use Rattle.nvme_subsys.proofs.subsystem.Subsystem.store.Goals as goal

pub invariant_of-self : goal.invariant_of-self
invariant_of-self g c =
    let items = c.self.inside.controllers.items in
    let found = found-at _ _ items c.args.self.now.state c.in-Some.index c.index_mut.result.now
    (state-is c.self.view_is) c.in-Some.ensures.some.1 c.index_mut.ensures.value in
    sound-set _ _ items c.in-Some.index c.index_mut.result.now c.store.new.controller found
    (ap (λ (r : Reaction). r.controller.cntlid) (sym c.store.ensures)
    ∙ store-id c.args.address c.args.bytes.now c.index_mut.result.now) c.self.invariant

pub returns-clause-reacts : goal.returns-clause-reacts
returns-clause-reacts g c =
    let items = c.self.inside.controllers.items in
    let found = found-at _ _ items c.args.self.now.state c.in-Some.index c.index_mut.result.now
    (state-is c.self.view_is) c.in-Some.ensures.some.1 c.index_mut.ensures.value in
    rw (← c.self.view_is)
    (reacts
    (record { world = c.self.inside.spaces; device = g.M.Medium.device c.self.inside.medium; controllers = items })
    c.args.cntlid c.in-Some.index c.index_mut.result.now c.store.new.controller
    (after_store c.args.address c.args.bytes.now)
    (seen_of c.store.result) c.in-Some.ensures.some.0 found c.store.ensures)
