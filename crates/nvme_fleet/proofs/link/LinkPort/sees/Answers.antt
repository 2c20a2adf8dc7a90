use Rattle.nvme_fleet.proofs.Words.{◌∙◌, ap, seen_in}
use Rattle.nvme_fleet.proofs.LinkCalls.{seen-over}
use Rattle.nvme_fleet.proofs.link.LinkPort.sees.Goals as goal

pub returns-clause-step : goal.returns-clause-step
returns-clause-step g c =
    seen-over g.M.Medium.step g.M.Medium.tells c.args.self.now c.args.lane c.args.head c.args.phase c.entry_seen.result
    c.window.ensures.there
    (c.entry_seen.ensures.seen ∙ ap (seen_in c.args.lane c.args.head c.args.phase) c.window.ensures.bytes)
