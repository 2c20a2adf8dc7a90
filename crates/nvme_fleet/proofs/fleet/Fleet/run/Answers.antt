use Rattle.nvme_fleet.proofs.Words.{◌∷◌, ◌++◌, ◌∙◌, [], ap}
use Rattle.nvme_fleet.proofs.FleetRuns.{runs-none, runs-next}
use Rattle.nvme_fleet.proofs.fleet.Fleet.run.Goals as goal

pub loop-event-init : goal.loop-event-init
loop-event-init g c = runs-none g.M.Medium.step g.M.Medium.tells c.args.replies.now.items c.args.self.now

pub loop-event-preserved : goal.loop-event-preserved
loop-event-preserved g c =
    rw (c.push_reserved.ensures.items ∙ ap (λ xs. xs ++ c.reply_to.result ∷ []) c.reserve.ensures.items)
    (runs-next g.M.Medium.step g.M.Medium.tells c.args.replies.now.items c.loop-event.replies.items c.args.events.now
    c.loop-event.event-index _ c.args.self.now c.loop-event.self c.reply_to.new.self c.reply_to.result
    c.loop-event-test.true c.loop-event.invariant c.reply_to.ensures.calls c.reply_to.ensures.bytes)
