use Rattle.nvme_fleet.proofs.DriverSteps.{resets}
use Rattle.nvme_fleet.proofs.member.reset.Goals as goal

pub returns : goal.returns
returns g c =
    let r = resets g.M.Medium.step g.M.Medium.tells c.args.driver.now c.reset.new.self c.args.link.now c.reset.new.port
    c.requires.sound c.requires.there c.reset.ensures.links c.reset.ensures.driver c.reset.ensures.calls in
    record { step = r.step; site = r.site; medium = r.medium; below = r.below }
