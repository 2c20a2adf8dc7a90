use Rattle.std.proofs.Common.{◌≡◌, ◌<◌, ◌∙◌, refl, sym, ap, subst, length, Some}
use Rattle.std.specs.Prelude.{slice_get}
use Rattle.nvme_spec.specs.Execution.{scene}
use Rattle.nvme_machine.specs.Controllers.{Controller, open_pair}
use Rattle.nvme_machine.specs.Executing.{setting}
use Rattle.nvme_ctrl.specs.Executions.{execution_of}
use Rattle.nvme_ctrl.proofs.Executions.{executes-nth, calls-nth, is-there, posting-cntlid}
use Rattle.nvme_ctrl.proofs.controller.Controller.execute_into.Goals as goal

pub post-requires-clause-there : goal.post-requires-clause-there
post-requires-clause-there g c =
    let s = c.self.inside in
    let at : slice_get s.fetched.items c.args.i ≡ Some c.in-Some.command =
    rw (← c.deref.ensures.0) (sym c.command_at.ensures ∙ c.in-Some.is) in
    let found : slice_get c.args.self.now.fetched c.args.i ≡ Some c.in-Some.command =
    ap (λ (x : Controller). slice_get x.fetched c.args.i) (sym c.self.view_is) ∙ at in
    let there : c.args.i < length c.args.self.now.fetched =
    is-there c.args.self.now.fetched c.args.i c.in-Some.command found in
    subst (λ (x : Controller). c.args.i < length x.fetched) (sym c.perform-answered.ensures.rest) there

pub returns-clause-executed : goal.returns-clause-executed
returns-clause-executed g c =
    let s = c.self.inside in
    let at : slice_get s.fetched.items c.args.i ≡ Some c.in-Some.command =
    rw (← c.deref.ensures.0) (sym c.command_at.ensures ∙ c.in-Some.is) in
    let found : slice_get c.args.self.now.fetched c.args.i ≡ Some c.in-Some.command =
    ap (λ (x : Controller). slice_get x.fetched c.args.i) (sym c.self.view_is) ∙ at in
    let pair : open_pair c.args.self.now c.in-Some.command ≡ Some c.in-Some-open_pair.pair =
    sym c.open_pair.ensures.pair ∙ c.in-Some-open_pair.is in
    executes-nth g.M.Medium.tells c.args.i
    (setting c.args.self.now c.args.spaces.now (g.M.Medium.device c.args.medium.now))
    (setting c.change_queues.new.self c.perform-answered.new.spaces (g.M.Medium.device c.perform-answered.new.medium))
    c.in-Some.command c.in-Some-open_pair.pair
    (execution_of c.perform-answered.result c.perform-answered.new.marks (scene c.perform-answered.new.spaces
    c.perform-answered.new.self.window (g.M.Medium.device c.perform-answered.new.medium)))
    c.perform-answered.new.self c.post.new.self
    found pair c.perform-answered.ensures.answers c.perform-answered.ensures.rest c.post.ensures
    c.change_queues.ensures refl refl

pub returns-clause-calls : goal.returns-clause-calls
returns-clause-calls g c =
    let s = c.self.inside in
    let at : slice_get s.fetched.items c.args.i ≡ Some c.in-Some.command =
    rw (← c.deref.ensures.0) (sym c.command_at.ensures ∙ c.in-Some.is) in
    let found : slice_get c.args.self.now.fetched c.args.i ≡ Some c.in-Some.command =
    ap (λ (x : Controller). slice_get x.fetched c.args.i) (sym c.self.view_is) ∙ at in
    let pair : open_pair c.args.self.now c.in-Some.command ≡ Some c.in-Some-open_pair.pair =
    sym c.open_pair.ensures.pair ∙ c.in-Some-open_pair.is in
    calls-nth g.M.Medium.step c.args.medium.now c.perform-answered.new.medium g.M.Medium.tells c.args.i
    (setting c.args.self.now c.args.spaces.now (g.M.Medium.device c.args.medium.now))
    (setting c.change_queues.new.self c.perform-answered.new.spaces (g.M.Medium.device c.perform-answered.new.medium))
    c.in-Some.command c.in-Some-open_pair.pair
    (execution_of c.perform-answered.result c.perform-answered.new.marks (scene c.perform-answered.new.spaces
    c.perform-answered.new.self.window (g.M.Medium.device c.perform-answered.new.medium)))
    c.perform-answered.new.self c.post.new.self
    found pair c.perform-answered.ensures.answers c.perform-answered.ensures.rest c.post.ensures
    c.change_queues.ensures refl refl
    c.perform-answered.ensures.calls

pub returns-clause-cntlid : goal.returns-clause-cntlid
returns-clause-cntlid g c =
    posting-cntlid c.perform-answered.result.change c.args.i c.in-Some.command c.in-Some-open_pair.pair
    c.perform-answered.result.status c.perform-answered.result.dw0
    c.perform-answered.new.self c.post.new.self c.change_queues.new.self c.post.ensures c.change_queues.ensures
    ∙ ap (λ (x : Controller). x.cntlid) c.perform-answered.ensures.rest

pub returns-clause-ready : goal.returns-clause-ready
returns-clause-ready g c =
    rw (posting-cntlid c.perform-answered.result.change c.args.i c.in-Some.command c.in-Some-open_pair.pair
    c.perform-answered.result.status c.perform-answered.result.dw0
    c.perform-answered.new.self c.post.new.self c.change_queues.new.self c.post.ensures c.change_queues.ensures)
    c.perform-answered.ensures.ready
