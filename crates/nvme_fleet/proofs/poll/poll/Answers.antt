use Rattle.nvme_fleet.proofs.DriverSteps.{polls}
use Rattle.nvme_fleet.proofs.poll.poll.Goals as goal

pub returns : goal.returns
returns g c =
    let r = polls g.M.Medium.step g.M.Medium.tells c.args.driver.now c.poll_into.new.self
    c.args.link.now c.poll_into.new.port c.poll_into.result c.poll_into.new.buffer c.requires.sound c.requires.there
    c.poll_into.ensures.links c.poll_into.ensures.polls in
    let done = r.0 in
    record { step = done.step; bytes = r.1; site = done.site; medium = done.medium; below = done.below }
