use Rattle.nvme_fleet.proofs.Words.{sym, ap, ◌∙◌, Controller}
use Rattle.nvme_fleet.proofs.EventEffects.{is-some-there, lent-there, place-below}
use Rattle.nvme_fleet.proofs.link.Link.window.Goals as goal

pub unwrap-requires : goal.unwrap-requires
unwrap-requires g c = is-some-there c.controller.result c.self.inside.subsystem.now.state c.self.inside.cntlid
    c.self.invariant c.controller.ensures.none

pub returns-clause-bytes : goal.returns-clause-bytes
returns-clause-bytes g c =
    rw (← c.self.view_is) (c.window.ensures
    ∙ ap (λ (x : Controller). x.window) (sym (lent-there (λ y. y.now) c.controller.result c.unwrap.result
    c.self.inside.subsystem.now.state c.self.inside.cntlid c.unwrap.ensures c.controller.ensures.some)))

pub returns-clause-there : goal.returns-clause-there
returns-clause-there g c =
    rw (← c.self.view_is) (place-below c.self.inside.subsystem.now.state c.self.inside.cntlid c.self.invariant)
