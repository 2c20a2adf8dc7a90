use Rattle.std.proofs.Common.{◌≡◌, take, length}
use Rattle.std.specs.Prelude.{vec_capacity, vec_len}
use Rattle.nvme_spec.specs.MediumCalls.{MakesCalls}
use Rattle.nvme_machine.specs.Subsystems.{Run}
use Rattle.nvme_machine.specs.EventCalls.{AreCallsOfRun}
use Rattle.nvme_subsys.proofs.subsystem.Subsystem.run.Given as goal

-- the events so far are a run with its calls, and there is memory for the rest
abbrev pub invariant-loop-event : goal.invariant-loop-event
invariant-loop-event g l = record {
  ran : Run g.M.Medium.tells l.fn.self.state (take l.event-index l.events) l.seen.items l.self.state;
  calls : MakesCalls g.M.Medium.step
      (AreCallsOfRun g.M.Medium.tells l.fn.self.state (take l.event-index l.events) l.seen.items l.self.state)
      l.fn.self.medium l.self.medium;
  so_far : vec_len l.seen ≡ l.event-index;
  room : vec_capacity l.seen ≡ length l.events;
}
