use Rattle.std.proofs.Common.{[], arith, refl, rules}
use Rattle.nvme_subsys.proofs.Runs.{run-next, calls-next}
use Rattle.nvme_subsys.proofs.subsystem.Subsystem.run.Goals as goal

pub loop-event-init : goal.loop-event-init
loop-event-init g c = record {
  ran = search rules;
  calls = record { calls = []; are = search rules; made = refl };
  so_far = search rules;
  room = search rules;
}

pub loop-event-preserved : goal.loop-event-preserved
loop-event-preserved g c = record {
  ran = rw c.push_reserved.ensures.items (run-next g.M.Medium.tells c.args.events.now c.loop-event.event-index
      _ c.loop-event.seen.items c.args.self.now.state c.loop-event.self.state c.apply.new.self.state c.apply.result
      c.loop-event-test.true c.loop-event.invariant.ran c.apply.ensures.step);
  calls = rw c.push_reserved.ensures.items (calls-next g.M.Medium.step g.M.Medium.tells c.args.events.now
      c.loop-event.event-index _ c.loop-event.seen.items c.args.self.now c.loop-event.self c.apply.new.self
      c.apply.result c.loop-event-test.true c.loop-event.invariant.calls c.apply.ensures.calls);
  so_far = omega arith;
  room = omega arith;
}
