use Rattle.nvme_fleet.proofs.Words.{take, RunsBehind}
use Rattle.nvme_fleet.proofs.fleet.Fleet.run.Given as goal

-- the events so far have happened, and their replies are added
abbrev pub invariant-loop-event : goal.invariant-loop-event
invariant-loop-event g l = RunsBehind g.M.Medium.step g.M.Medium.tells l.fn.replies.items l.fn.self
    (take l.event-index l.events) l.replies.items l.self
