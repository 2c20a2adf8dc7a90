use Rattle.nvme_fleet.proofs.PowerStep.{over-still}
use Rattle.nvme_fleet.proofs.power.reset_over.Goals as goal

pub returns-clause-state : goal.returns-clause-state
returns-clause-state g c =
    (over-still g.M.Medium.step g.M.Medium.tells _ _ c.requires.there c.requires.cycled c.reset.ensures.calls).subsystem

pub returns-clause-medium : goal.returns-clause-medium
returns-clause-medium g c =
    (over-still g.M.Medium.step g.M.Medium.tells _ _ c.requires.there c.requires.cycled c.reset.ensures.calls).medium
