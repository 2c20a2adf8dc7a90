use Rattle.nvme_fleet.proofs.Words.{[], ◌∷◌, refl, Stores, seen_of, Store}
use Rattle.nvme_fleet.proofs.Links.{called-over, there-after}
use Rattle.nvme_fleet.proofs.Storing.{stored-there}
use Rattle.nvme_fleet.proofs.link.LinkPort.store.Goals as goal

pub invariant_of-self : goal.invariant_of-self
invariant_of-self g c = there-after g.M.Medium.tells _ _
    (Store c.self.inside.cntlid c.args.addr (record { ref_ptr = (0, 0); now = c.args.part.now }))
    (seen_of c.react.result) c.self.inside.cntlid c.react.ensures.step c.self.invariant

pub returns-clause-step : goal.returns-clause-step
returns-clause-step g c =
    rw (← c.self.view_is)
    (called-over g.M.Medium.step g.M.Medium.tells c.self.inside.cntlid
    (Stores c.args.addr c.args.part.now) (seen_of c.react.result ∷ []) _ c.react.new.self.state _ _ _ c.self.invariant.0
    (c.react.new.self.state, c.react.ensures.step, refl) tt c.react.ensures.medium)

pub returns-clause-bytes : goal.returns-clause-bytes
returns-clause-bytes g c =
    rw (← c.self.view_is) (stored-there _ _ c.self.inside.cntlid c.args.addr c.args.part.now
    (seen_of c.react.result) c.self.invariant c.react.ensures.step c.requires)
