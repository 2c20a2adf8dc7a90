use Rattle.nvme_fleet.proofs.Words.{[], ◌∷◌, refl, Turns}
use Rattle.nvme_machine.specs.declared.event.Event.TheVariants.{Fetch, Execute}
use Rattle.nvme_fleet.proofs.Links.{called-over, there-after}
use Rattle.nvme_fleet.proofs.LayerCalls.{turn-joined}
use Rattle.nvme_fleet.proofs.link.LinkPort.turn.Goals as goal

pub invariant_of-self : goal.invariant_of-self
invariant_of-self g c =
    there-after g.M.Medium.tells c.apply.new.self.state _
    (Execute c.self.inside.cntlid 0) c.apply-2.result c.self.inside.cntlid c.apply-2.ensures.step
    (there-after g.M.Medium.tells _ _ (Fetch c.self.inside.cntlid 0) c.apply.result c.self.inside.cntlid
    c.apply.ensures.step c.self.invariant)

pub returns-clause-step : goal.returns-clause-step
returns-clause-step g c =
    rw (← c.self.view_is)
    (called-over g.M.Medium.step g.M.Medium.tells c.self.inside.cntlid Turns
    (c.apply.result ∷ c.apply-2.result ∷ []) _ c.apply-2.new.self.state _ _ _ c.self.invariant.0
    (c.apply.new.self.state, c.apply.ensures.step, (c.apply-2.new.self.state, c.apply-2.ensures.step, refl)) tt
    (turn-joined g.M.Medium.step g.M.Medium.tells c.self.inside.cntlid _ c.apply.new.self.state c.apply-2.new.self.state
    c.apply.result c.apply-2.result _ c.apply.new.self.medium c.apply-2.new.self.medium c.apply.ensures.calls
    c.apply-2.ensures.calls))
