use Rattle.std.proofs.Common.{◌≤◌, length, rules}
use Rattle.nvme_subsys.specs.OverMedium.{over}
use Rattle.nvme_fleet.specs.FleetStates.{layers_of}
use Rattle.nvme_script.specs.ScriptCalls.{RanCalling}
use Rattle.nvme_script.proofs.Running.{layers-run, on_err_from}
use Rattle.nvme_script.proofs.Writing.{by-none, half-next, half-stops, half-whole}
use Rattle.nvme_script.proofs.run.run_events.Goals as goal

pub loop-kept-init : goal.loop-kept-init
loop-kept-init g c = record {
  called =
      by-none (RanCalling g.M.Medium.step g.M.Medium.tells) (layers-run g.M.Medium.step g.M.Medium.tells) g.W.Sink.step
      g.W.Sink.contents (over (layers_of c.args.fleet.now.state) c.args.fleet.now.medium) c.args.writer.now;
  unmarked = c.none-marks.ensures;
}

pub loop-kept-preserved : goal.loop-kept-preserved
loop-kept-preserved g c = record {
  called = half-next (RanCalling g.M.Medium.step g.M.Medium.tells) (layers-run g.M.Medium.step g.M.Medium.tells)
      g.W.Sink.step g.W.Sink.contents c.args.text.now c.args.events.now c.loop-kept.kept-index _ c.loop-kept-test.true
      (over (layers_of c.args.fleet.now.state) c.args.fleet.now.medium)
      (over (layers_of c.loop-kept.fleet.state) c.loop-kept.fleet.medium)
      (over (layers_of c.run_event.new.fleet.state) c.run_event.new.fleet.medium)
      c.args.writer.now c.loop-kept.writer c.run_event.new.writer c.loop-kept.invariant.called
      c.in_ok-run_event.ensures.ok;
  unmarked = c.run_event.ensures.unmarked;
}

pub returns-in_err-run_event-clause-err : goal.returns-in_err-run_event-clause-err
returns-in_err-run_event-clause-err g c =
    on_err_from _
    (half-stops (RanCalling g.M.Medium.step g.M.Medium.tells) (layers-run g.M.Medium.step g.M.Medium.tells)
    g.W.Sink.step g.W.Sink.contents c.args.text.now c.args.events.now c.loop-kept.kept-index _ c.loop-kept-test.true
    (over (layers_of c.args.fleet.now.state) c.args.fleet.now.medium)
    (over (layers_of c.loop-kept.fleet.state) c.loop-kept.fleet.medium)
    (over (layers_of c.run_event.new.fleet.state) c.run_event.new.fleet.medium)
    c.args.writer.now c.loop-kept.writer c.run_event.new.writer c.loop-kept.invariant.called
    c.in_err-run_event.ensures.err)

pub returns-clause-ok : goal.returns-clause-ok
returns-clause-ok g c =
    let all : length c.args.events.now ≤ c.loop-kept.kept-index = search rules in
    half-whole (RanCalling g.M.Medium.step g.M.Medium.tells) g.W.Sink.step g.W.Sink.contents c.args.text.now
    c.args.events.now c.loop-kept.kept-index
    (over (layers_of c.args.fleet.now.state) c.args.fleet.now.medium)
    (over (layers_of c.loop-kept.fleet.state) c.loop-kept.fleet.medium)
    c.args.writer.now c.loop-kept.writer all c.loop-kept.invariant.called
