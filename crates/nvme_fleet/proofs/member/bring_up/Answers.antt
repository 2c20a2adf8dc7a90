use Rattle.nvme_fleet.proofs.DriverSteps.{rises}
use Rattle.nvme_fleet.proofs.member.bring_up.Goals as goal

pub returns : goal.returns
returns g c =
    let r = rises g.M.Medium.step g.M.Medium.tells c.args.driver.now c.bring_up.new.self c.args.link.now
    c.bring_up.new.port c.bring_up.result c.requires.sound c.requires.there c.bring_up.ensures.links
    c.bring_up.ensures.already c.bring_up.ensures.rises in
    record { step = r.step; site = r.site; medium = r.medium; below = r.below }
