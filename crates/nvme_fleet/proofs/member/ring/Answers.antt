use Rattle.nvme_fleet.proofs.DriverSteps.{rings}
use Rattle.nvme_fleet.proofs.member.ring.Goals as goal

pub returns : goal.returns
returns g c =
    let r = rings g.M.Medium.step g.M.Medium.tells c.args.driver.now c.ring.new.self c.args.link.now c.ring.new.port
    c.ring.result c.requires.sound c.requires.there c.ring.ensures.links c.ring.ensures.driver c.ring.ensures.up
    c.ring.ensures.calls in
    record { step = r.step; site = r.site; medium = r.medium; below = r.below }
