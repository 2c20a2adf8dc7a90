use Rattle.nvme_fleet.proofs.DriverSteps.{places}
use Rattle.nvme_fleet.proofs.place.place.Goals as goal

pub returns : goal.returns
returns g c =
    let r = places g.M.Medium.step g.M.Medium.tells c.args.driver.now c.place.new.self c.args.link.now c.place.new.port
    c.args.request.now c.place.result c.requires.sound c.requires.there c.place.ensures.links c.place.ensures.refused
    c.place.ensures.unchanged c.place.ensures.ticket c.place.ensures.placed c.place.ensures.holds in
    record { step = r.step; site = r.site; medium = r.medium; below = r.below }
