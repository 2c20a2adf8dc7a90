use Rattle.nvme_fleet.proofs.Words.{[], ◌∷◌, refl, Writes, seen_of, Write32}
use Rattle.nvme_fleet.proofs.Links.{called-over, there-after}
use Rattle.nvme_fleet.proofs.link.LinkPort.write32.Goals as goal

pub invariant_of-self : goal.invariant_of-self
invariant_of-self g c = there-after g.M.Medium.tells _ _ (Write32 c.self.inside.cntlid c.args.offset c.args.value)
    (seen_of c.react.result) c.self.inside.cntlid c.react.ensures.step c.self.invariant

pub returns-clause-step : goal.returns-clause-step
returns-clause-step g c =
    rw (← c.self.view_is)
    (called-over g.M.Medium.step g.M.Medium.tells c.self.inside.cntlid
    (Writes c.args.offset c.args.value) (seen_of c.react.result ∷ []) _ c.react.new.self.state _ _ _ c.self.invariant.0
    (c.react.new.self.state, c.react.ensures.step, refl) tt c.react.ensures.medium)
