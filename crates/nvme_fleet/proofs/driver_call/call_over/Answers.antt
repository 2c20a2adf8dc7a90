use Rattle.nvme_fleet.proofs.Words.{refl, mailbox, linked_controller}
use Rattle.nvme_fleet.proofs.DeliveredData.{handed-fits, handed-step}
use Rattle.nvme_fleet.proofs.driver_call.call_over.Goals as goal

pub returns-in-Ring-clause-below : goal.returns-in-Ring-clause-below
returns-in-Ring-clause-below g c = rw (c.in-Ring.is) (c.ring.result, refl, c.ring.ensures.below)

pub returns-in-Poll-clause-step : goal.returns-in-Poll-clause-step
returns-in-Poll-clause-step g c =
    rw (c.in-Poll.is)
    (handed-step (mailbox c.args.driver.now (linked_controller c.args.link.now.state)) c.poll.new.driver
    (linked_controller c.poll.new.link.state) c.poll.result c.poll.new.buffer c.poll.ensures.step c.poll.ensures.bytes)

pub returns-in-Poll-clause-fits : goal.returns-in-Poll-clause-fits
returns-in-Poll-clause-fits g c =
    handed-fits (mailbox c.args.driver.now (linked_controller c.args.link.now.state)) c.poll.new.driver
    (linked_controller c.poll.new.link.state) c.poll.result c.poll.new.buffer c.poll.ensures.step c.poll.ensures.bytes
